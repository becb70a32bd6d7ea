-- Properties that come in order.
use Rattle.std.proofs.Common.{◌≡◌, ℕ, zero, suc, ◌+◌, ◌<◌, List, [], ◌∷◌, ◌++◌, length, get_or, Bool, true, false, Some, Ordering, Less, Equal, Greater, refl, ap, sym, ◌∙◌, arith, true≢false}
use Rattle.std.specs.Prelude.{slice_get, Ok}
use Rattle.std.specs.List.{AllByRecursion}
use Rattle.std.specs.Ordering.{is_lt}
use Rattle.serde_json.specs.Data.{Data, array, item, no_items}
use Rattle.carrier_model.specs.Sorted.{IsStrictlySorted, with_element, choose}
use Rattle.carrier_model.specs.Values.{Prop, IsProp, prop_cmp}
use Rattle.carrier_model.proofs.Orders.{prop_total}
use Rattle.carrier_model.proofs.SortedLists.{tail_sorted, head_less}
use Rattle.json_model.specs.Properties.{comes_after, read_prop, read_props}
use Rattle.json_model.proofs.SoundProps.{props_are}
use Rattle.prop_values.specs.Ends.{HasPairOf}

less_is : (o : Ordering) → is_lt o ≡ choose o true false false
less_is Less = refl
less_is Equal = refl
less_is Greater = refl

last_at : (ps : List Prop) (k : ℕ) (q p : Prop) → slice_get ps k ≡ Some q → k + 1 ≡ length ps → comes_after ps p ≡ choose (prop_cmp q p) true false false
last_at [] k q p at e = absurd cc
last_at (r ∷ []) zero q p at e = let same : r ≡ q = cc in ap (λ x. choose (prop_cmp x p) true false false) same
last_at (r ∷ []) (suc k) q p at e = absurd (omega (arith, e))
last_at (r ∷ s ∷ ps) zero q p at e = absurd (omega (arith, e))
last_at (r ∷ s ∷ ps) (suc k) q p at e = last_at (s ∷ ps) k q p at (omega (arith, e))

-- the test against the last property
pub last_tested : (ps : List Prop) (k : ℕ) (q p : Prop) (o : Ordering) (b : Bool) → slice_get ps k ≡ Some q → k + 1 ≡ length ps → o ≡ prop_cmp q p → b ≡ is_lt o → b ≡ comes_after ps p
last_tested ps k q p o b at e is test = test ∙ (less_is o ∙ (ap (λ x. choose x true false false) is ∙ sym (last_at ps k q p at e)))

was_less : (o : Ordering) → choose o true false false ≡ true → o ≡ Less
was_less Less h = refl
was_less Equal h = absurd (true≢false (sym h))
was_less Greater h = absurd (true≢false (sym h))

-- what comes behind the last is above all
abbrev AreBelow : List Prop → Prop → Type 0
AreBelow ps p = AllByRecursion (λ q. prop_cmp q p ≡ Less) ps

all_below : (ps : List Prop) (p : Prop) → IsStrictlySorted prop_cmp ps → comes_after ps p ≡ true → AreBelow ps p
all_below [] p sorted h = tt
all_below (q ∷ []) p sorted h = (was_less (prop_cmp q p) h, tt)
all_below (q ∷ r ∷ ps) p sorted h =
    let rest = all_below (r ∷ ps) p (tail_sorted prop_total q (r ∷ ps) sorted) h in
    (prop_total.trans q r p (head_less prop_total q (r ∷ ps) r sorted (0, omega arith, refl)) rest.0, rest)

put_last : (ps : List Prop) (p : Prop) → AreBelow ps p → with_element prop_cmp ps p ≡ ps ++ p ∷ []
put_last [] p h = refl
put_last (q ∷ ps) p h = rw h.0 (ap (λ l. q ∷ l) (put_last ps p h.1))

pub pushed : (ps : List Prop) (p : Prop) → IsStrictlySorted prop_cmp ps → comes_after ps p ≡ true → with_element prop_cmp ps p ≡ ps ++ p ∷ []
pushed ps p sorted h = put_last ps p (all_below ps p sorted h)

below_at : (ps : List Prop) (p : Prop) → AreBelow ps p → (k : ℕ) (d : Prop) → k < length ps → prop_cmp (get_or ps k d) p ≡ Less
below_at [] p h k d lt = absurd (omega (arith, lt))
below_at (q ∷ ps) p h zero d lt = h.0
below_at (q ∷ ps) p h (suc k) d lt = below_at ps p h.1 k d (omega (arith, lt))

pub not_double : (ps : List Prop) (p : Prop) → IsStrictlySorted prop_cmp ps → comes_after ps p ≡ true → HasPairOf ps p → ⊥
not_double ps p sorted h (k, q, lt, at, e) =
    let less : prop_cmp q p ≡ Less = ap (λ x. prop_cmp x p) (sym at) ∙ below_at ps p (all_below ps p sorted h) k q lt in
    absurd cc

-- a property that is read is one
one_read : (v : Data) (p : Prop) → read_prop v ≡ Ok p → read_props (array (item v no_items)) ≡ Ok (p ∷ [])
one_read v p h = rw h refl

pub prop_fits : (v : Data) (p : Prop) → read_prop v ≡ Ok p → IsProp p
prop_fits v p h = (props_are (array (item v no_items)) (p ∷ []) (one_read v p h)).1.each 0 p (omega arith)
