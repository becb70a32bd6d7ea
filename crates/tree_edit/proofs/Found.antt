-- A property list with the property of a key and a kind, or without one.
use Rattle.std.proofs.Common.{◌≡◌, ℕ, zero, suc, get_or, List, [], ◌∷◌, refl, ap, sym, subst, ◌∙◌, arith}
use Rattle.std.specs.Prelude.{Bool, true, false, not, ◌||◌, cond, All, Any, Contains, Option, Some, None, IfSome, IfNone, is_some, slice_get}
use Rattle.std.specs.List.{list_any, remove}
use Rattle.std.specs.declared.cmp.Ordering.{Ordering}
use Rattle.std.specs.declared.cmp.Ordering.TheVariants.{Less, Equal, Greater}
use Rattle.std.proofs.lemmas.Option.{slice_get_within, get_or_from_slice_get}
use Rattle.carrier_model.specs.Keys.{Key}
use Rattle.carrier_model.specs.Sorted.{choose, IsStrictlySorted}
use Rattle.carrier_model.specs.Values.{Prop, kind_of, prop_cmp, with_pair, HasPair}
use Rattle.carrier_model.proofs.OrderLaws.{props_exactly}
use Rattle.carrier_model.proofs.Orders.{prop_total}
use Rattle.carrier_model.proofs.SortedLists.{head_less, tail_sorted}
use Rattle.edit_model.specs.Edits.{has_pair, without_pair}

pair_there : (key : Key) (kind : ℕ) (p : Prop) → HasPair key kind p → has_pair key kind p ≡ true
pair_there key kind p h = ap (λ o. choose o false true false) ((props_exactly p (with_pair key kind)).1 h)

pair_absent : (key : Key) (kind : ℕ) (p : Prop) → (HasPair key kind p → ⊥) → has_pair key kind p ≡ false
pair_absent key kind p h = by (prop_cmp p (with_pair key kind)) refl
  where
    by : (o : Ordering) → prop_cmp p (with_pair key kind) ≡ o → choose o false true false ≡ false
    by Less is = refl
    by Equal is = absurd (h ((props_exactly p (with_pair key kind)).0 is))
    by Greater is = refl

-- two properties of one key and kind are equal in order
apart : (key : Key) (kind : ℕ) (p q : Prop) → HasPair key kind p → prop_cmp p q ≡ Less → HasPair key kind q → ⊥
apart key kind p q h less k = let same : prop_cmp p q ≡ Equal = (props_exactly p q).1 (h.0 ∙ sym k.0, h.1 ∙ sym k.1) in cc

pub absent_stays : (key : Key) (kind : ℕ) (l : List Prop) → All (λ p. HasPair key kind p → ⊥) l → without_pair key kind l ≡ l
absent_stays key kind [] h = refl
absent_stays key kind (p ∷ l) h =
    let not_here : has_pair key kind p ≡ false = pair_absent key kind p (h 0 p (omega arith)) in
    rw not_here (ap (λ m. p ∷ m) (absent_stays key kind l (λ k d lt. h (suc k) d (omega (arith, lt)))))

pub absent_none : (key : Key) (kind : ℕ) (l : List Prop) → All (λ p. HasPair key kind p → ⊥) l → list_any (has_pair key kind) l ≡ false
absent_none key kind [] h = refl
absent_none key kind (p ∷ l) h =
    let not_here : has_pair key kind p ≡ false = pair_absent key kind p (h 0 p (omega arith)) in
    rw not_here (absent_none key kind l (λ k d lt. h (suc k) d (omega (arith, lt))))

pub found_any : (key : Key) (kind : ℕ) (l : List Prop) (k : ℕ) (p : Prop) → slice_get l k ≡ Some p → HasPair key kind p → list_any (has_pair key kind) l ≡ true
found_any key kind [] k p at h = absurd cc
found_any key kind (q ∷ l) zero p at h =
    let same : q ≡ p = cc in
    let here : has_pair key kind q ≡ true = ap (has_pair key kind) same ∙ pair_there key kind p h in
    rw here refl
found_any key kind (q ∷ l) (suc k) p at h = or_true (has_pair key kind q) (found_any key kind l k p at h)
  where
    or_true : (b : Bool) → list_any (has_pair key kind) l ≡ true → (b || list_any (has_pair key kind) l) ≡ true
    or_true true e = refl
    or_true false e = e

-- what a look-up answers
pub told : (r : Option ℕ) (key : Key) (kind : ℕ) (l : List Prop) → IfSome r (λ k. (p : Prop) × (slice_get l k ≡ Some p) × HasPair key kind p) → IfNone r (All (λ p. HasPair key kind p → ⊥) l) → is_some r ≡ list_any (has_pair key kind) l
told None key kind l some none = sym (absent_none key kind l none)
told (Some k) key kind l (p, at, pair) none = sym (found_any key kind l k p at pair)

pub found_removed : (key : Key) (kind : ℕ) (l : List Prop) (k : ℕ) (p : Prop) → IsStrictlySorted prop_cmp l → slice_get l k ≡ Some p → HasPair key kind p → without_pair key kind l ≡ remove l k
found_removed key kind [] k p sorted at h = absurd cc
found_removed key kind (q ∷ l) zero p sorted at h =
    let same : q ≡ p = cc in
    let own : HasPair key kind q = subst (HasPair key kind) (sym same) h in
    let here : has_pair key kind q ≡ true = pair_there key kind q own in
    rw here (absent_stays key kind l (λ i d lt has. apart key kind q (get_or l i d) own (sorted 0 (suc i) d (omega arith) (omega (arith, lt))) has))
found_removed key kind (q ∷ l) (suc k) p sorted at h =
    let inside : Contains l p = (k, slice_get_within l k p at, get_or_from_slice_get l k p p at) in
    let here : has_pair key kind q ≡ false = pair_absent key kind q (λ has. apart key kind q p has (head_less prop_total q l p sorted inside) h) in
    rw here (ap (λ m. q ∷ m) (found_removed key kind l k p (tail_sorted prop_total q l sorted) at h))

joined : (key : Key) (kind : ℕ) (p : Prop) (l : List Prop) → has_pair key kind p ≡ false → All (λ q. has_pair key kind q ≡ false) l → All (λ q. has_pair key kind q ≡ false) (p ∷ l)
joined key kind p l is rest zero d lt = is
joined key kind p l is rest (suc k) d lt = rest k d (omega (arith, lt))

-- what is left has no such property
passes : (key : Key) (kind : ℕ) (l : List Prop) → All (λ p. has_pair key kind p ≡ false) (without_pair key kind l)
passes key kind [] = λ k d lt. absurd (omega (arith, lt))
passes key kind (p ∷ l) = by (has_pair key kind p) refl (passes key kind l)
  where
    by : (b : Bool) → has_pair key kind p ≡ b → All (λ p. has_pair key kind p ≡ false) (without_pair key kind l) → All (λ q. has_pair key kind q ≡ false) (cond (not b) (p ∷ without_pair key kind l) (without_pair key kind l))
    by true is rest = rest
    by false is rest = joined key kind p (without_pair key kind l) is rest

pub none_left : (q : Prop) (l : List Prop) → Any (λ p. prop_cmp p q ≡ Equal) (without_pair q.key (kind_of q.value) l) → ⊥
none_left q l (k, p, lt, at, same) =
    let left : has_pair q.key (kind_of q.value) (get_or (without_pair q.key (kind_of q.value) l) k p) ≡ false = passes q.key (kind_of q.value) l k p lt in
    let there : has_pair q.key (kind_of q.value) p ≡ true = ap (λ o. choose o false true false) same in
    let gone : has_pair q.key (kind_of q.value) p ≡ false = subst (λ x. has_pair q.key (kind_of q.value) x ≡ false) at left in
    cc
