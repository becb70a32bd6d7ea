-- The first property with an id, in a sorted property list.
use Rattle.std.proofs.Common.{◌≡◌, ℕ, ◌<◌, ◌≤◌, List, length, get_or, Bool, true, false, refl, sym, ap, ◌∙◌, inl, inr, arith}
use Rattle.std.proofs.lemmas.Bool.{cases_lt}
use Rattle.std.proofs.lemmas.Bool.Decides.{nat_tests}
use Rattle.std.proofs.lemmas.Option.{slice_get_within, get_or_from_slice_get}
use Rattle.std.specs.Prelude.{slice_get, Some}
use Rattle.carrier_model.proofs.Pairs.{pair_found}
use Rattle.std.proofs.lemmas.List.Folds.{list_any_at, list_any_none}
use Rattle.std.specs.List.{list_any}
use Rattle.std.specs.Ordering.{nat_cmp, ordering_then}
use Rattle.std.specs.declared.cmp.Ordering.{Ordering}
use Rattle.std.specs.declared.cmp.Ordering.TheVariants.{Less, Equal, Greater}
use Rattle.carrier_model.specs.Keys.{Key, id, named, key_cmp, is_id}
use Rattle.carrier_model.specs.Values.{Prop, kind_of, prop_cmp, with_pair}
use Rattle.carrier_model.specs.Places.{IsGap, IsPlace}
use Rattle.carrier_model.specs.Sorted.{IsStrictlySorted}

not_true : (b : Bool) → (b ≡ true → ⊥) → b ≡ false
not_true true h = absurd (h refl)
not_true false h = refl

numbers_less : (m n kind : ℕ) → ordering_then (nat_cmp m n) (nat_cmp kind 0) ≡ Less → m < n
numbers_less m n kind h = by (nat_cmp m n) refl h
  where
    by : (a : Ordering) → nat_cmp m n ≡ a → ordering_then a (nat_cmp kind 0) ≡ Less → m < n
    by Less e h = grind (arith, nat_tests)
    by Equal e h = grind (arith, nat_tests)
    by Greater e h = cc

numbers_upto : (m n : ℕ) (o : Ordering) → ordering_then (nat_cmp m n) o ≡ Less → m ≤ n
numbers_upto m n o h = by (nat_cmp m n) refl h
  where
    by : (a : Ordering) → nat_cmp m n ≡ a → ordering_then a o ≡ Less → m ≤ n
    by Less e h = grind (arith, nat_tests)
    by Equal e h = grind (arith, nat_tests)
    by Greater e h = cc

-- a property with the id is not below the id without a kind
has_not_below : (n : ℕ) (key : Key) (kind : ℕ) → is_id n key ≡ true → ordering_then (key_cmp key (id n)) (nat_cmp kind 0) ≡ Less → ⊥
has_not_below n (id m) kind has h = let lt : m < n = numbers_less m n kind h in grind (arith, nat_tests)
has_not_below n (named name) kind has h = cc

-- what is between that and a property with the id has the id too
between : (n : ℕ) (key other : Key) (kind : ℕ) (o : Ordering) → (ordering_then (key_cmp key (id n)) (nat_cmp kind 0) ≡ Less → ⊥) → ordering_then (key_cmp key other) o ≡ Less → is_id n other ≡ true → is_id n key ≡ true
between n (id m) (id k) kind o from h has =
    let le : m ≤ k = numbers_upto m k o h in
    let least : m < n → ⊥ = λ lt. from (let less : nat_cmp m n ≡ Less = grind (arith, nat_tests) in ap (λ a. ordering_then a (nat_cmp kind 0)) less) in
    elim (cases_lt m n) [
      | inl lt ↦ absurd (least lt)
      | inr ge ↦ grind (arith, nat_tests)
    ]
between n (named x) (id k) kind o from h has = cc
between n key (named y) kind o from h has = cc

-- where the property at the place of the id without a kind has another key, none has the id
pub no_id : (n : ℕ) (l : List Prop) (at : ℕ) → IsStrictlySorted prop_cmp l
    → ((j : ℕ) (d : Prop) → j < at → prop_cmp (get_or l j d) (with_pair (id n) 0) ≡ Less)
    → ((j : ℕ) (d : Prop) → at ≤ j → j < length l → prop_cmp (get_or l j d) (with_pair (id n) 0) ≡ Less → ⊥)
    → ((d : Prop) → at < length l → is_id n (get_or l at d).key ≡ false)
    → list_any (λ p. is_id n p.key) l ≡ false
no_id n l at sorted below from other = list_any_none (λ p. is_id n p.key) l (λ j d lt. not_true (is_id n (get_or l j d).key) (λ has. elim (cases_lt j at) [
  | inl under ↦ has_not_below n (get_or l j d).key (kind_of (get_or l j d).value) has (below j d under)
  | inr over ↦ elim (cases_lt at j) [
    | inl past ↦
        let here : is_id n (get_or l at d).key ≡ true = between n (get_or l at d).key (get_or l j d).key (kind_of (get_or l at d).value) (nat_cmp (kind_of (get_or l at d).value) (kind_of (get_or l j d).value)) (from at d (omega arith) (omega arith)) (sorted at j d past lt) has in
        let wrong : true ≡ false = sym here ∙ other d (omega arith) in
        cc
    | inr to ↦
        let e : j ≡ at = omega arith in
        let wrong : true ≡ false = sym has ∙ (ap (λ i. is_id n (get_or l i d).key) e ∙ other d (omega arith)) in
        cc
  ]
]))

gap_from : (l : List Prop) (key : Key) (at : ℕ) → IsGap prop_cmp l (with_pair key 0) at → (j : ℕ) (d : Prop) → at ≤ j → j < length l → prop_cmp (get_or l j d) (with_pair key 0) ≡ Less → ⊥
gap_from l key at gap j d from lt h = let wrong : Greater ≡ Less = sym (gap.above j d from lt) ∙ h in cc

pub id_at_place : (n : ℕ) (l : List Prop) (at : ℕ) (x : Prop) → IsPlace prop_cmp l (with_pair (id n) 0) at → slice_get l at ≡ Some x → is_id n x.key ≡ list_any (λ p. is_id n p.key) l
id_at_place n l at x place read =
    let found = pair_found l (id n) 0 at place in
    let same : found.0 ≡ x = let e : Some found.0 ≡ Some x = sym found.1 ∙ read in cc in
    let key : x.key ≡ id n = ap (λ p. p.key) (sym same) ∙ found.2.0 in
    let self : is_id n (id n) ≡ true = grind (arith, nat_tests) in
    let holds : is_id n x.key ≡ true = ap (is_id n) key ∙ self in
    holds ∙ sym (list_any_at (λ p. is_id n p.key) l at x place.in_range (ap (λ p. is_id n p.key) (get_or_from_slice_get l at x x read) ∙ holds))

pub id_at_gap : (n : ℕ) (l : List Prop) (at : ℕ) (x : Prop) → IsStrictlySorted prop_cmp l → IsGap prop_cmp l (with_pair (id n) 0) at → slice_get l at ≡ Some x → is_id n x.key ≡ list_any (λ p. is_id n p.key) l
id_at_gap n l at x sorted gap read = by (is_id n x.key) refl
  where
    by : (b : Bool) → is_id n x.key ≡ b → is_id n x.key ≡ list_any (λ p. is_id n p.key) l
    by true e = e ∙ sym (list_any_at (λ p. is_id n p.key) l at x (slice_get_within l at x read) (ap (λ p. is_id n p.key) (get_or_from_slice_get l at x x read) ∙ e))
    by false e = e ∙ sym (no_id n l at sorted gap.below (gap_from l (id n) at gap) (λ d lt. ap (λ p. is_id n p.key) (get_or_from_slice_get l at x d read) ∙ e))

pub id_at_end : (n : ℕ) (l : List Prop) (at : ℕ) → IsStrictlySorted prop_cmp l → IsGap prop_cmp l (with_pair (id n) 0) at → length l ≤ at → list_any (λ p. is_id n p.key) l ≡ false
id_at_end n l at sorted gap past = no_id n l at sorted gap.below (gap_from l (id n) at gap) (λ d lt. absurd (omega arith))
