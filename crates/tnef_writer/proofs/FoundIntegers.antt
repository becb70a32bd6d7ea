-- The Integer32 of an id, found in a list that is in its order.
use Rattle.std.proofs.Common.{◌≡◌, ℕ, zero, suc, List, [], ◌∷◌, Bool, true, false, refl, sym, ap, ◌∙◌, arith}
use Rattle.std.specs.Prelude.{◌==◌, ◌&&◌, Some, All, Contains, slice_get}
use Rattle.std.proofs.lemmas.Bool.{and_from, and_parts, eq-eqb, eqb-true}
use Rattle.std.proofs.lemmas.Option.{slice_get_within, get_or_from_slice_get}
use Rattle.std.specs.declared.cmp.Ordering.TheVariants.{Less, Equal}
use Rattle.carrier_model.specs.Keys.{Key, id, named, is_id}
use Rattle.carrier_model.specs.Sorted.{IsStrictlySorted}
use Rattle.carrier_model.specs.Values.{Prop, kind_of, prop_cmp, HasPair}
use Rattle.carrier_model.proofs.OrderLaws.{props_exactly}
use Rattle.carrier_model.proofs.Orders.{prop_total}
use Rattle.carrier_model.proofs.SortedLists.{head_less, tail_sorted}
use Rattle.tnef_model.specs.TnefCanonical.{bits_in, integer_or}

abbrev is_integer : ℕ → Prop → Bool
is_integer n p = is_id n p.key && (kind_of p.value == 0x0003)

there : (n : ℕ) (p : Prop) → HasPair (id n) 0x0003 p → is_integer n p ≡ true
there n p h = and_from (is_id n p.key) (kind_of p.value == 0x0003) (ap (is_id n) h.0 ∙ eq-eqb n n refl) (eq-eqb (kind_of p.value) 0x0003 h.1)

key_is : (n : ℕ) (key : Key) → is_id n key ≡ true → key ≡ id n
key_is n (id m) h = ap id (eqb-true m n h)
key_is n (named name) h = absurd cc

missing : (n : ℕ) (p : Prop) → (HasPair (id n) 0x0003 p → ⊥) → is_integer n p ≡ false
missing n p h = by (is_integer n p) refl
  where
    by : (b : Bool) → is_integer n p ≡ b → b ≡ false
    by true is =
        let parts = and_parts (is_id n p.key) (kind_of p.value == 0x0003) is in
        absurd (h (key_is n p.key parts.0, eqb-true (kind_of p.value) 0x0003 parts.1))
    by false is = refl

-- two properties of one key and kind are equal in order
apart : (n : ℕ) (q p : Prop) → HasPair (id n) 0x0003 p → prop_cmp q p ≡ Less → HasPair (id n) 0x0003 q → ⊥
apart n q p h less k = let same : prop_cmp q p ≡ Equal = (props_exactly q p).1 (k.0 ∙ sym h.0, k.1 ∙ sym h.1) in cc

pub integer_there : (l : List Prop) (n other k : ℕ) (p : Prop) → IsStrictlySorted prop_cmp l → slice_get l k ≡ Some p → HasPair (id n) 0x0003 p → integer_or l n other ≡ bits_in p.value
integer_there [] n other k p sorted at h = absurd cc
integer_there (q ∷ l) n other zero p sorted at h =
    let same : q ≡ p = cc in
    let here : is_integer n q ≡ true = ap (is_integer n) same ∙ there n p h in
    rw here (ap (λ (x : Prop). bits_in x.value) same)
integer_there (q ∷ l) n other (suc k) p sorted at h =
    let inside : Contains l p = (k, slice_get_within l k p at, get_or_from_slice_get l k p p at) in
    let before : is_integer n q ≡ false = missing n q (apart n q p h (head_less prop_total q l p sorted inside)) in
    rw before (integer_there l n other k p (tail_sorted prop_total q l sorted) at h)

pub integer_absent : (l : List Prop) (n other : ℕ) → All (λ p. HasPair (id n) 0x0003 p → ⊥) l → integer_or l n other ≡ other
integer_absent [] n other h = refl
integer_absent (p ∷ l) n other h =
    let not_here : is_integer n p ≡ false = missing n p (h 0 p (omega arith)) in
    rw not_here (integer_absent l n other (λ k d lt. h (suc k) d (omega (arith, lt))))
