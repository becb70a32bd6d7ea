-- Ranks rise with the properties.
use Rattle.std.proofs.Common.{◌≡◌, inl, inr, ℕ, ◌+◌, ◌*◌, ◌<◌, List, refl, ap, ◌∙◌, arith}
use Rattle.std.proofs.lemmas.Bool.{cases_lt}
use Rattle.std.proofs.lemmas.Cmp.{nat_list_cmp_total, ranked}
use Rattle.std.specs.Cmp.Lexicographic.{slice_cmp}
use Rattle.std.specs.Ordering.{MatchOrdering, nat_cmp, ordering_reverse, ordering_then}
use Rattle.std.specs.declared.cmp.Ordering.{Ordering}
use Rattle.std.specs.declared.cmp.Ordering.TheVariants.{Less, Equal, Greater}
use Rattle.carrier_model.specs.Keys.{Name, numbered, texted, Key, id, named, set_of, IsName, IsKey, label_cmp, name_cmp, key_cmp}
use Rattle.carrier_model.specs.Values.{Prop, kind_of, prop_cmp}
use Rattle.prop_values.specs.Ranks.{rank_in_set, rank_beside, key_rank, IsRank}

pub below : (i j : ℕ) → i < j → nat_cmp i j ≡ Less
below i j lt = by (nat_cmp i j) refl (ranked i j (nat_cmp i j) refl)
  where
    by : (a : Ordering) → nat_cmp i j ≡ a → MatchOrdering a (i < j) (i ≡ j) (j < i) → nat_cmp i j ≡ Less
    by Less e m = e
    by Equal e m = absurd (omega (arith, m, lt))
    by Greater e m = absurd (omega (arith, m, lt))

-- numbers of one rank and a rest: by the rank, and then by the rest
parts_rise : (m n k l : ℕ) → k < 0x10000 → l < 0x10000 → m * 0x10000 + k < n * 0x10000 + l → ordering_then (nat_cmp m n) (nat_cmp k l) ≡ Less
parts_rise m n k l k_in l_in lt = elim (cases_lt m n) [
  | inl under ↦ ap (λ a. ordering_then a (nat_cmp k l)) (below m n under)
  | inr from ↦ by (nat_cmp m n) refl (ranked m n (nat_cmp m n) refl)
]
  where
    by : (a : Ordering) → nat_cmp m n ≡ a → MatchOrdering a (m < n) (m ≡ n) (n < m) → ordering_then (nat_cmp m n) (nat_cmp k l) ≡ Less
    by Less e w = ap (λ a. ordering_then a (nat_cmp k l)) e
    by Equal e w = ap (λ a. ordering_then a (nat_cmp k l)) e ∙ below k l (omega (arith, w, lt))
    by Greater e w = absurd (omega (arith, w, lt, k_in, l_in))

labels_rise : (a b : Name) → IsName a → IsName b → rank_in_set a < rank_in_set b → label_cmp a b ≡ Less
labels_rise (numbered s m) (numbered t n) v w lt = below m n (omega (arith, lt))
labels_rise (numbered s m) (texted t u) v w lt = refl
labels_rise (texted s u) (numbered t n) v w lt = absurd (omega (arith, lt, w))
labels_rise (texted s u) (texted t o) v w lt = absurd (omega (arith, lt))

label_low : (a : Name) → IsName a → 0x1_0000_0000 < rank_in_set a
label_low (numbered s m) v = omega arith
label_low (texted s u) v = omega arith

label_high : (a : Name) → IsName a → rank_in_set a < 0x4_0000_0000
label_high (numbered s m) v = omega (arith, v)
label_high (texted s u) v = omega arith

module _ (set : List ℕ) (a b : Name) (v : IsName a) (w : IsName b) where
  -- names of sets in this order are in it
  by_sets : slice_cmp nat_cmp (set_of a) (set_of b) ≡ Less → name_cmp a b ≡ Less
  by_sets e = ap (λ o. ordering_then o (label_cmp a b)) e

  -- a set above the one that was chosen is above it the other way round
  turned : slice_cmp nat_cmp (set_of b) set ≡ Greater → slice_cmp nat_cmp set (set_of b) ≡ Less
  turned e = nat_list_cmp_total.antisymm set (set_of b) ∙ ap ordering_reverse e

  evenly : slice_cmp nat_cmp (set_of b) set ≡ Equal → slice_cmp nat_cmp set (set_of b) ≡ Equal
  evenly e = nat_list_cmp_total.antisymm set (set_of b) ∙ ap ordering_reverse e

  below_equal : slice_cmp nat_cmp (set_of a) set ≡ Less → slice_cmp nat_cmp (set_of b) set ≡ Equal → slice_cmp nat_cmp (set_of a) (set_of b) ≡ Less
  below_equal e f =
      let back : slice_cmp nat_cmp (set_of b) (set_of a) ≡ Greater = nat_list_cmp_total.congr (set_of b) set (set_of a) f ∙ (nat_list_cmp_total.antisymm set (set_of a) ∙ ap ordering_reverse e) in
      nat_list_cmp_total.antisymm (set_of a) (set_of b) ∙ ap ordering_reverse back

  beside : (x y : Ordering) → slice_cmp nat_cmp (set_of a) set ≡ x → slice_cmp nat_cmp (set_of b) set ≡ y → rank_beside x a < rank_beside y b → name_cmp a b ≡ Less
  beside Less Less e f lt = absurd (omega (arith, lt))
  beside Less Equal e f lt = by_sets (below_equal e f)
  beside Less Greater e f lt = by_sets (nat_list_cmp_total.trans (set_of a) set (set_of b) e (turned f))
  beside Equal Less e f lt = absurd (omega (arith, lt, label_low a v))
  beside Equal Equal e f lt = ap (λ o. ordering_then o (label_cmp a b)) (nat_list_cmp_total.congr (set_of a) set (set_of b) e ∙ evenly f) ∙ labels_rise a b v w lt
  beside Equal Greater e f lt = by_sets (nat_list_cmp_total.congr (set_of a) set (set_of b) e ∙ turned f)
  beside Greater Less e f lt = absurd (omega (arith, lt))
  beside Greater Equal e f lt = absurd (omega (arith, lt, label_high b w))
  beside Greater Greater e f lt = absurd (omega (arith, lt))

  pub names_rise : rank_beside (slice_cmp nat_cmp (set_of a) set) a < rank_beside (slice_cmp nat_cmp (set_of b) set) b → name_cmp a b ≡ Less
  names_rise lt = beside (slice_cmp nat_cmp (set_of a) set) (slice_cmp nat_cmp (set_of b) set) refl refl lt

named_low : (x : Ordering) (a : Name) → IsName a → 0xFFFF_FFFF < rank_beside x a
named_low Less a v = omega arith
named_low Equal a v = omega (arith, label_low a v)
named_low Greater a v = omega arith

keys_rise : (set : List ℕ) (x y : Key) (k l : ℕ) → IsKey x → IsKey y → k < 0x10000 → l < 0x10000 → key_rank set x k < key_rank set y l → ordering_then (key_cmp x y) (nat_cmp k l) ≡ Less
keys_rise set (id m) (id n) k l v w k_in l_in lt = parts_rise m n k l k_in l_in lt
keys_rise set (id m) (named b) k l v w k_in l_in lt = refl
keys_rise set (named a) (id n) k l v w k_in l_in lt = absurd (omega (arith, lt, w, l_in, named_low (slice_cmp nat_cmp (set_of a) set) a v))
keys_rise set (named a) (named b) k l v w k_in l_in lt = ap (λ o. ordering_then o (nat_cmp k l)) (names_rise set a b v w lt)

-- where ranks differ, the properties are in the order of their ranks
pub ranks_rise : (set : List ℕ) (p q : Prop) (r s : ℕ) → IsRank set p r → IsRank set q s → r < s → prop_cmp p q ≡ Less
ranks_rise set p q r s a b lt = keys_rise set p.key q.key (kind_of p.value) (kind_of q.value) a.key_fits b.key_fits a.kind_fits b.kind_fits (omega (arith, a.rank_is, b.rank_is, lt))
