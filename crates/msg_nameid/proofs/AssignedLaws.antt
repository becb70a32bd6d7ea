-- Ids that follow one another.
use Rattle.std.proofs.Common.{◌≡◌, ℕ, zero, suc, ◌+◌, ◌<◌, ◌≤◌, Bool, true, false, List, [], ◌∷◌, ◌++◌, length, get_or, take, refl, sym, ap, subst, ◌∙◌, inl, inr, arith}
use Rattle.std.specs.Prelude.{Contains, Option, Some, None, nat_eq, if◌then◌else◌, find}
use Rattle.std.specs.Option.{option_map}
use Rattle.std.specs.declared.cmp.Ordering.TheVariants.{Less, Equal}
use Rattle.std.proofs.lemmas.Bool.{cases_lt, eqb-true}
use Rattle.std.proofs.lemmas.Cmp.{tied_itself}
use Rattle.std.proofs.lemmas.List.{length-map, length-take-le, take_more}
use Rattle.carrier_model.specs.Keys.{Name, name_cmp, id_of}
use Rattle.carrier_model.specs.Sorted.{IsStrictlySorted}
use Rattle.carrier_model.proofs.Orders.{name_total}
use Rattle.msg_model.specs.NameMap.{Pair, name_for, pairs_from}
use Rattle.msg_model.proofs.WrittenLists.{has_id}
use Rattle.msg_nameid.specs.Maps.{IsAssigned, IsLeastId, names_in}

pub names_from : (k : ℕ) (names : List Name) → names_in (pairs_from k names) ≡ names
names_from k [] = refl
names_from k (x ∷ names) = ap (λ (l : List Name). x ∷ l) (names_from (k + 1) names)

pub length-pairs_from : (k : ℕ) (names : List Name) → length (pairs_from k names) ≡ length names
length-pairs_from k [] = refl
length-pairs_from k (x ∷ names) = ap suc (length-pairs_from (k + 1) names)

from-push : (k : ℕ) (names : List Name) (x : Name) → pairs_from k (names ++ x ∷ []) ≡ pairs_from k names ++ (0x8000 + (k + length names), x) ∷ []
from-push k [] x = ap (λ (n : ℕ). (n, x) ∷ []) (let e : 0x8000 + k ≡ 0x8000 + (k + 0) = omega arith in e)
from-push k (y ∷ names) x = ap (λ (l : List Pair). (0x8000 + k, y) ∷ l) (from-push (k + 1) names x ∙ ap (λ (n : ℕ). pairs_from (k + 1) names ++ (n, x) ∷ []) (let e : 0x8000 + (k + 1 + length names) ≡ 0x8000 + (k + suc (length names)) = omega arith in e))

-- the pair of an id that stands for a name
holds : (pairs : List Pair) (n : ℕ) (x : Name) → name_for pairs n ≡ Some x → Contains pairs (n, x)
holds [] n x h = absurd cc
holds (p ∷ pairs) n x h = by (nat_eq p.0 n) refl (holds pairs n x) h
  where
    by : (b : Bool) → nat_eq p.0 n ≡ b → (name_for pairs n ≡ Some x → Contains pairs (n, x)) → option_map (λ (q : Pair). q.1) (if b then Some p else find (λ (q : Pair). nat_eq q.0 n) pairs) ≡ Some x → Contains (p ∷ pairs) (n, x)
    by true e later h = let id : p.0 ≡ n = eqb-true p.0 n e in let name : p.1 ≡ x = cc in (0, omega arith, λ i. (id i, name i))
    by false e later h = let (k, lt, is) = later h in (suc k, omega (arith, lt), is)

-- where a pair comes from
from_at : (a : ℕ) (names : List Name) (n : ℕ) (x : Name) → Contains (pairs_from a names) (n, x) → (k : ℕ) × (k < length names) × (get_or names k x ≡ x) × (n ≡ 0x8000 + (a + k))
from_at a [] n x (k, lt, e) = absurd (omega (arith, lt))
from_at a (y ∷ names) n x (zero, lt, e) = (0, omega arith, ap (λ (p : Pair). p.1) e, sym (ap (λ (p : Pair). p.0) e) ∙ omega arith)
from_at a (y ∷ names) n x (suc k, lt, e) =
    let (j, below, is, id) = from_at (a + 1) names n x (k, omega (arith, lt), e) in
    (suc j, omega (arith, below), is, id ∙ omega arith)

one_place : (names : List Name) (x : Name) (i j : ℕ) → IsStrictlySorted name_cmp names → i < length names → j < length names → get_or names i x ≡ x → get_or names j x ≡ x → i ≡ j
one_place names x i j sorted i_in j_in a b = elim (cases_lt i j) [
  | inl lt ↦ absurd (clash (sorted i j x lt j_in) a b)
  | inr ge ↦ elim (cases_lt j i) [
    | inl lt ↦ absurd (clash (sorted j i x lt i_in) b a)
    | inr le ↦ omega (arith, ge, le)
  ]
]
  where
    clash : {y z : Name} → name_cmp y z ≡ Less → y ≡ x → z ≡ x → ⊥
    clash h p q = let wrong : Less ≡ Equal = sym h ∙ ((λ i. name_cmp (p i) (q i)) ∙ tied_itself name_total x) in cc

one_id : (pairs : List Pair) (m n : ℕ) (x : Name) → IsAssigned pairs → Contains pairs (m, x) → Contains pairs (n, x) → m ≡ n
one_id pairs m n x h a b =
    let names : List Name = names_in pairs in
    let (i, i_in, i_is, i_id) = from_at 0 names m x (subst (λ (l : List Pair). Contains l (m, x)) h.ids a) in
    let (j, j_in, j_is, j_id) = from_at 0 names n x (subst (λ (l : List Pair). Contains l (n, x)) h.ids b) in
    let same : i ≡ j = one_place names x i j h.sorted i_in j_in i_is j_is in
    omega (arith, i_id, j_id, same)

-- the least id of a name is its only one
pub assigned_id : (pairs : List Pair) (x : Name) (r : Option ℕ) → IsAssigned pairs → Contains (names_in pairs) x → IsLeastId pairs x r → r ≡ Some (id_of (names_in pairs) x)
assigned_id pairs x r h c least =
    let known = has_id (names_in pairs) x (omega (arith, h.few, length-map pairs (λ (p : Pair). p.1))) c in
    let there : Contains pairs (id_of (names_in pairs) x, x) = subst (λ (l : List Pair). Contains l (id_of (names_in pairs) x, x)) (sym h.ids) (holds (pairs_from 0 (names_in pairs)) (id_of (names_in pairs) x) x known.stands) in
    by r there least
  where
    by : (r : Option ℕ) → Contains pairs (id_of (names_in pairs) x, x) → IsLeastId pairs x r → r ≡ Some (id_of (names_in pairs) x)
    by None there none = absurd (none (id_of (names_in pairs) x) there)
    by (Some id) there (here, least) = ap Some (one_id pairs id (id_of (names_in pairs) x) x h here there)

pub from_is_assigned : (names : List Name) → IsStrictlySorted name_cmp names → length names ≤ 32000 → IsAssigned (pairs_from 0 names)
from_is_assigned names sorted few = record {
  ids = ap (pairs_from 0) (sym (names_from 0 names));
  sorted = subst (IsStrictlySorted name_cmp) (sym (names_from 0 names)) sorted;
  few = omega (arith, few, length-pairs_from 0 names);
}

-- one name more
pub assigned_more : (names : List Name) (k : ℕ) (x : Name) (pairs new : List Pair) → k < length names → get_or names k x ≡ x → pairs ≡ pairs_from 0 (take k names) → new ≡ pairs ++ (0x8000 + k, x) ∷ [] → new ≡ pairs_from 0 (take (k + 1) names)
assigned_more names k x pairs new lt at is e =
    let taken : take (k + 1) names ≡ take k names ++ x ∷ [] = take_more names k x lt ∙ ap (λ (y : Name). take k names ++ y ∷ []) at in
    e ∙ (ap (λ (l : List Pair). l ++ (0x8000 + k, x) ∷ []) is ∙ sym (ap (pairs_from 0) taken ∙ (from-push 0 (take k names) x ∙ ap (λ (n : ℕ). pairs_from 0 (take k names) ++ (n, x) ∷ []) (let e : 0x8000 + (0 + length (take k names)) ≡ 0x8000 + k = omega (arith, taken_long) in e))))
  where
    taken_long : length (take k names) ≡ k
    taken_long = length-take-le k names (omega (arith, lt))

-- where each name was looked at, they are in order
pub looked_at : (names : List Name) (k : ℕ) → length names ≤ k → (0 < k → IsStrictlySorted name_cmp names) → IsStrictlySorted name_cmp names
looked_at names k all sorted = elim (cases_lt 0 k) [
  | inl some ↦ sorted some
  | inr none ↦ λ i j d lt in_range. absurd (omega (arith, none, all, lt, in_range))
]
