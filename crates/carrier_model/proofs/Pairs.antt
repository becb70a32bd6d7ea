-- The place of a key and a kind in a sorted property list.
use Rattle.std.proofs.Common.{◌≡◌, ℕ, List, get_or, Result, Ok, Err, IfOk, IfErr, refl, sym, ap, ◌∙◌, inl, inr}
use Rattle.std.proofs.lemmas.Bool.{cases_lt}
use Rattle.std.proofs.lemmas.Map.Lookups.{exact_unsigned}
use Rattle.std.proofs.lemmas.Option.{slice_get-get_or}
use Rattle.std.specs.Prelude.{slice_get, Some, All}
use Rattle.std.specs.Cmp.{IsTotalOrder}
use Rattle.std.specs.Ordering.{nat_cmp, ordering_then, ordering_reverse}
use Rattle.std.specs.declared.cmp.Ordering.{Ordering}
use Rattle.std.specs.declared.cmp.Ordering.TheVariants.{Less, Equal, Greater}
use Rattle.carrier_model.specs.Keys.{Key, key_cmp}
use Rattle.carrier_model.specs.Values.{Prop, kind_of, prop_cmp, with_pair, HasPair}
use Rattle.carrier_model.specs.Places.{IsGap, IsPlace}
use Rattle.carrier_model.proofs.Orders.{both_equal, key_exact, prop_total}

-- each element is equal to itself by a total order
pub equal_to_itself : {A : Type 0} {R : A → A → Ordering} → IsTotalOrder R → (x : A) → R x x ≡ Equal
equal_to_itself {A} {R} o x = by (R x x) (o.antisymm x x)
  where
    by : (a : Ordering) → a ≡ ordering_reverse a → a ≡ Equal
    by Less h = cc
    by Equal h = refl
    by Greater h = cc

pub pair_found : (l : List Prop) (key : Key) (kind i : ℕ) → IsPlace prop_cmp l (with_pair key kind) i → (p : Prop) × (slice_get l i ≡ Some p) × HasPair key kind p
pair_found l key kind i place =
    let p : Prop = get_or l i (with_pair key kind) in
    let same = both_equal (key_cmp p.key key) (nat_cmp (kind_of p.value) kind) (place.equal (with_pair key kind)) in
    (p, slice_get-get_or l i (with_pair key kind) place.in_range, (key_exact _ _ same.0, exact_unsigned _ _ same.1))

pair_equal : (p : Prop) (key : Key) (kind : ℕ) → HasPair key kind p → prop_cmp p (with_pair key kind) ≡ Equal
pair_equal p key kind has = (λ i. ordering_then (key_cmp (has.0 i) key) (nat_cmp (has.1 i) kind)) ∙ equal_to_itself prop_total (with_pair key kind)

pub pair_absent : (l : List Prop) (key : Key) (kind i : ℕ) → IsGap prop_cmp l (with_pair key kind) i → All (λ p. HasPair key kind p → ⊥) l
pair_absent l key kind i gap k d lt has =
    let e : prop_cmp (get_or l k d) (with_pair key kind) ≡ Equal = pair_equal (get_or l k d) key kind has in
    elim (cases_lt k i) [
      | inl under ↦ let h : Less ≡ Equal = sym (gap.below k d under) ∙ e in cc
      | inr from ↦ let h : Greater ≡ Equal = sym (gap.above k d from lt) ∙ e in cc
    ]

-- the order looks at a property's key and kind alone
pub place_of_prop : (l : List Prop) (p : Prop) (kind : ℕ) (r : Result ℕ ℕ) → kind ≡ kind_of p.value → IfOk r (IsPlace prop_cmp l (with_pair p.key kind)) → IfOk r (IsPlace prop_cmp l p)
place_of_prop l p kind (Ok i) e place = record { in_range = place.in_range; equal = λ d. ap (λ k. prop_cmp (get_or l i d) (with_pair p.key k)) (sym e) ∙ place.equal d }
place_of_prop l p kind (Err i) e place = tt

pub gap_of_prop : (l : List Prop) (p : Prop) (kind : ℕ) (r : Result ℕ ℕ) → kind ≡ kind_of p.value → IfErr r (IsGap prop_cmp l (with_pair p.key kind)) → IfErr r (IsGap prop_cmp l p)
gap_of_prop l p kind (Ok i) e gap = tt
gap_of_prop l p kind (Err i) e gap = record {
  in_range = gap.in_range;
  below = λ j d lt. ap (λ k. prop_cmp (get_or l j d) (with_pair p.key k)) (sym e) ∙ gap.below j d lt;
  above = λ j d le lt. ap (λ k. prop_cmp (get_or l j d) (with_pair p.key k)) (sym e) ∙ gap.above j d le lt;
}
