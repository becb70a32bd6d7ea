-- The first double among arrivals is found in their sorted list.
use Rattle.std.proofs.Common.{◌≡◌, inl, inr, ℕ, zero, suc, ◌+◌, ◌-◌, ◌<◌, ◌≤◌, length, get_or, List, [], ◌∷◌, map, take, min, refl, sym, ap, subst, ◌∙◌, true, false, arith}
use Rattle.std.proofs.lemmas.Bool.{cases_lt}
use Rattle.std.proofs.lemmas.Cmp.{nat_cmp_total, on_total, then_total, ranked}
use Rattle.std.proofs.lemmas.List.{get_or_default, get_or-map, get_or-take, length-map, length-take-le, same_lists}
use Rattle.std.proofs.lemmas.List.Sorted.{Contains-permutation, IsPermutation-sym, IsPermutation-map, length_permutation, ranks_by, sorted_far}
use Rattle.std.proofs.lemmas.Map.Keys.{IsDistinct-IsPermutation, IsDistinct-from_apart, apart_from_distinct}
use Rattle.std.specs.Prelude.{IsPermutation, Contains, Option, Some, None, IfSome, unwrap_or}
use Rattle.std.specs.Cmp.{IsTotalOrder}
use Rattle.std.specs.List.{IsDistinct}
use Rattle.std.specs.Ordering.{MatchOrdering, is_eq, is_lt, nat_cmp, ordering_reverse, ordering_then}
use Rattle.std.specs.declared.cmp.Ordering.{Ordering}
use Rattle.std.specs.declared.cmp.Ordering.TheVariants.{Less, Equal, Greater}
use Rattle.carrier_model.specs.Sorted.{IsStrictlySorted, choose, with_elements}
use Rattle.carrier_model.specs.Values.{Prop, prop_cmp}
use Rattle.carrier_model.proofs.Orders.{prop_total}
use Rattle.carrier_model.proofs.Place.{view_read}
use Rattle.carrier_model.proofs.SortedElements.{equal_by, equal_flips, elements_good}
use Rattle.carrier_model.proofs.SortedLists.{same_sorted}
use Rattle.prop_values.proofs.Ranks.{below}
use Rattle.prop_values.specs.Arranged.{ArePlaces}
use Rattle.prop_values.specs.Arrivals.{AreDifferent, AreOrdered, IsFirstDouble, AreInPlace, pair_cmp, IsSortedByPair, IsDoubleAt, IsAtMost, IsLeastDouble}

from_below : (i j : ℕ) → nat_cmp i j ≡ Less → i < j
from_below i j e = subst (λ a. MatchOrdering a (i < j) (i ≡ j) (j < i)) e (ranked i j (nat_cmp i j) refl)

some_of : {X : Type 0} (xs : List X) (i : ℕ) → i < length xs → X
some_of [] i h = absurd (omega (arith, h))
some_of (x ∷ xs) i h = x

module _ {A : Type 0} {R : A → A → Ordering} (o : IsTotalOrder R) where
  irreflexive : (x : A) → R x x ≡ Less → ⊥
  irreflexive x e = let h : Less ≡ Greater = sym e ∙ (o.antisymm x x ∙ ap ordering_reverse e) in cc

  never_both : (x y : A) → R x y ≡ Less → R y x ≡ Less → ⊥
  never_both x y e f = let h : Less ≡ Greater = sym e ∙ (o.antisymm x y ∙ ap ordering_reverse f) in cc

  -- neither equal nor above
  less_from : (x y : A) → is_lt (R y x) ≡ false → equal_by R x y ≡ false → R x y ≡ Less
  less_from x y not_less not_equal = by (R y x) refl
    where
      by : (a : Ordering) → R y x ≡ a → R x y ≡ Less
      by Less e = let h : true ≡ false = sym (ap is_lt e) ∙ not_less in cc
      by Equal e = let h : true ≡ false = sym (ap (λ a. choose a false true false) e) ∙ not_equal in cc
      by Greater e = o.antisymm x y ∙ ap ordering_reverse e

  less_or_equal : (x y : A) → equal_by R x y ≡ false → (R x y ≡ Greater → ⊥) → R x y ≡ Less
  less_or_equal x y not_equal not_above = by (R x y) refl
    where
      by : (a : Ordering) → R x y ≡ a → R x y ≡ Less
      by Less e = e
      by Equal e = let h : true ≡ false = sym (ap (λ a. choose a false true false) (o.antisymm y x ∙ ap ordering_reverse e)) ∙ not_equal in cc
      by Greater e = absurd (not_above e)

  apart_from : (x y : A) → (R x y ≡ Equal → ⊥) → equal_by R x y ≡ false
  apart_from x y differs = by (R y x) refl
    where
      by : (a : Ordering) → R y x ≡ a → choose (R y x) false true false ≡ false
      by Less e = ap (λ a. choose a false true false) e
      by Equal e = absurd (differs (o.antisymm x y ∙ ap ordering_reverse e))
      by Greater e = ap (λ a. choose a false true false) e

  -- what is not above one of two equal elements, and stands behind the other
  equal_between : (x z y : A) → (R x z ≡ Greater → ⊥) → (R z y ≡ Greater → ⊥) → R x y ≡ Equal → R z y ≡ Equal
  equal_between x z y low high same = by (R x z) (R z y) refl refl
    where
      by : (a b : Ordering) → R x z ≡ a → R z y ≡ b → R z y ≡ Equal
      by a Equal e f = f
      by a Greater e f = absurd (high f)
      by Less Less e f = let h : Less ≡ Equal = sym (o.trans x z y e f) ∙ same in cc
      by Equal Less e f = let h : Less ≡ Equal = sym (o.congr x z y e ∙ f) ∙ same in cc
      by Greater Less e f = absurd (low e)

pub different_distinct : (ps : List Prop) → AreDifferent ps → IsDistinct (equal_by prop_cmp) ps
different_distinct ps different = IsDistinct-from_apart (equal_by prop_cmp) ps (λ i j d lt in_range. apart_from prop_total (get_or ps i d) (get_or ps j d) (different i j d lt in_range))

module _ {X : Type 0} (xs : List X) (prop : X → Prop) (place : X → ℕ) where
  -- of each place of a double there is one
  one_place : (k p q : ℕ) → IsDoubleAt xs prop place k p → IsDoubleAt xs prop place k q → p ≡ q
  one_place k p q a b =
      let some : X = some_of xs (k + 1) a.in_range in
      sym (a.place_is some) ∙ b.place_is some

  -- one more pair of neighbours is looked at
  lower : (k n q : ℕ) (least : Option ℕ) → n ≡ k + 1 → IsDoubleAt xs prop place k q → IsLeastDouble xs prop place n least → IsLeastDouble xs prop place (n + 1) (Some (min q (unwrap_or least q)))
  lower k n q None e here l = record {
    found = (k, omega arith, subst (IsDoubleAt xs prop place k) (omega arith) here);
    all = λ j p lt double. elim (cases_lt (j + 1) n) [
      | inl under ↦ absurd (l.all j p under double)
      | inr from ↦
          let same : j ≡ k = omega arith in
          let at_k : IsDoubleAt xs prop place k p = subst (λ m. IsDoubleAt xs prop place m p) same double in
          omega (arith, one_place k p q at_k here)
    ];
  }
  lower k n q (Some r) e here l = record {
    found = elim (cases_lt q r) [
      | inl under ↦ (k, omega arith, subst (IsDoubleAt xs prop place k) (omega arith) here)
      | inr from ↦ (l.found.0, omega (arith, l.found.1), subst (IsDoubleAt xs prop place l.found.0) (omega arith) l.found.2)
    ];
    all = λ j p lt double. elim (cases_lt (j + 1) n) [
      | inl under ↦ let h : r ≤ p = l.all j p under double in omega arith
      | inr from ↦
          let same : j ≡ k = omega arith in
          let at_k : IsDoubleAt xs prop place k p = subst (λ m. IsDoubleAt xs prop place m p) same double in
          omega (arith, one_place k p q at_k here)
    ];
  }

  kept : (k n : ℕ) (least : Option ℕ) → n ≡ k + 1 → ((p : ℕ) → IsDoubleAt xs prop place k p → ⊥) → IsLeastDouble xs prop place n least → IsLeastDouble xs prop place (n + 1) least
  kept k n least e none l = record { found = wider least l.found; all = all }
    where
      wider : (o : Option ℕ) → IfSome o (λ p. (m : ℕ) × (m + 1 < n) × IsDoubleAt xs prop place m p) → IfSome o (λ p. (m : ℕ) × (m + 1 < n + 1) × IsDoubleAt xs prop place m p)
      wider None f = tt
      wider (Some p) f = (f.0, omega (arith, f.1), f.2)

      all : (j p : ℕ) → j + 1 < n + 1 → IsDoubleAt xs prop place j p → IsAtMost least p
      all j p lt double = elim (cases_lt (j + 1) n) [
        | inl under ↦ l.all j p under double
        | inr from ↦ let same : j ≡ k = omega arith in absurd (none p (subst (λ m. IsDoubleAt xs prop place m p) same double))
      ]

  module _ (n : ℕ) (d e : X) (one : 1 ≤ n) (in_range : n < length xs) (least : Option ℕ) (l : IsLeastDouble xs prop place n least) where
    next : n ≡ n - 1 + 1
    next = omega (arith, one)

    at_left : (f : X) → get_or xs (n - 1) f ≡ get_or xs (n - 1) d
    at_left f = get_or_default xs (n - 1) f d (omega (arith, in_range))

    at_right : (f : X) → get_or xs (n - 1 + 1) f ≡ get_or xs n e
    at_right f = subst (λ m. get_or xs m f ≡ get_or xs n e) next (get_or_default xs n f e in_range)

    compared : (f : X) → prop_cmp (prop (get_or xs (n - 1) f)) (prop (get_or xs (n - 1 + 1) f)) ≡ prop_cmp (prop (get_or xs (n - 1) d)) (prop (get_or xs n e))
    compared f = ap (λ x. prop_cmp (prop x) (prop (get_or xs (n - 1 + 1) f))) (at_left f) ∙ ap (λ x. prop_cmp (prop (get_or xs (n - 1) d)) (prop x)) (at_right f)

    pub least_lower : (a : Ordering) → a ≡ prop_cmp (prop (get_or xs (n - 1) d)) (prop (get_or xs n e)) → is_eq a ≡ true → (f : X) → IsLeastDouble xs prop place (n + 1) (Some (min (place (get_or xs n f)) (unwrap_or least (place (get_or xs n f)))))
    least_lower Less c h f = cc
    least_lower Equal c h f = lower (n - 1) n (place (get_or xs n f)) least next (record {
      in_range = omega (arith, in_range, next);
      equal = λ g. compared g ∙ sym c;
      place_is = λ g. ap place (at_right g ∙ get_or_default xs n e f in_range);
    }) l
    least_lower Greater c h f = cc

    pub least_kept : (a : Ordering) → a ≡ prop_cmp (prop (get_or xs (n - 1) d)) (prop (get_or xs n e)) → is_eq a ≡ false → IsLeastDouble xs prop place (n + 1) least
    least_kept a c h = kept (n - 1) n least next (λ p double. let g : true ≡ false = sym (ap is_eq (c ∙ (sym (compared d) ∙ double.equal d))) ∙ h in cc) l

  -- all are looked at
  pub least_of_all : (n : ℕ) (least : Option ℕ) → length xs ≤ n → IsLeastDouble xs prop place n least → IsLeastDouble xs prop place (length xs) least
  least_of_all n least le l = record { found = within least l.found; all = λ k p lt double. l.all k p (omega (arith, lt, le)) double }
    where
      within : (o : Option ℕ) → IfSome o (λ p. (m : ℕ) × (m + 1 < n) × IsDoubleAt xs prop place m p) → IfSome o (λ p. (m : ℕ) × (m + 1 < length xs) × IsDoubleAt xs prop place m p)
      within None f = tt
      within (Some p) f = (f.0, f.2.in_range, f.2)

module _ {X : Type 0} (prop : X → Prop) (place : X → ℕ) where
  pub by_pair : IsTotalOrder (pair_cmp prop place)
  by_pair = then_total (on_total prop prop_total) (on_total place nat_cmp_total)

  -- an element that is below another one isn't above it by key and kind
  not_above : (x y : X) → pair_cmp prop place x y ≡ Less → prop_cmp (prop x) (prop y) ≡ Greater → ⊥
  not_above x y e f = let h : Greater ≡ Less = sym (ap (λ a. ordering_then a (nat_cmp (place x) (place y))) f) ∙ e in cc

  places_rise : (x y : X) → pair_cmp prop place x y ≡ Less → prop_cmp (prop x) (prop y) ≡ Equal → place x < place y
  places_rise x y e f = from_below (place x) (place y) (sym (ap (λ a. ordering_then a (nat_cmp (place x) (place y))) f) ∙ e)

  rises_by_place : (x y : X) → prop_cmp (prop x) (prop y) ≡ Equal → place x < place y → pair_cmp prop place x y ≡ Less
  rises_by_place x y f lt = ap (λ a. ordering_then a (nat_cmp (place x) (place y))) f ∙ below (place x) (place y) lt

  module _ (xs ys : List X) (stand : AreInPlace xs place) (moved : IsPermutation xs ys) (sorted : IsSortedByPair ys prop place) where
    others : IsDistinct (equal_by (pair_cmp prop place)) xs
    others = IsDistinct-from_apart (equal_by (pair_cmp prop place)) xs (λ i j d lt in_range. apart_from by_pair (get_or xs i d) (get_or xs j d) (λ e. irreflexive nat_cmp_total j (apart i j d lt in_range e)))
      where
        apart : (i j : ℕ) (d : X) → i < j → j < length xs → pair_cmp prop place (get_or xs i d) (get_or xs j d) ≡ Equal → nat_cmp j j ≡ Less
        apart i j d lt in_range e = by (prop_cmp (prop (get_or xs i d)) (prop (get_or xs j d))) refl
          where
            x : X
            x = get_or xs i d

            y : X
            y = get_or xs j d

            less : nat_cmp (place x) (place y) ≡ Less
            less = below (place x) (place y) (omega (arith, lt, stand i d (omega arith), stand j d in_range))

            by : (a : Ordering) → prop_cmp (prop x) (prop y) ≡ a → nat_cmp j j ≡ Less
            by Less f = let h : Less ≡ Equal = sym (ap (λ a. ordering_then a (nat_cmp (place x) (place y))) f) ∙ e in cc
            by Equal f = let h : Less ≡ Equal = sym less ∙ (sym (ap (λ a. ordering_then a (nat_cmp (place x) (place y))) f) ∙ e) in cc
            by Greater f = let h : Greater ≡ Equal = sym (ap (λ a. ordering_then a (nat_cmp (place x) (place y))) f) ∙ e in cc

    strict : IsStrictlySorted (pair_cmp prop place) ys
    strict i j d lt in_range =
        less_from by_pair (get_or ys i d) (get_or ys j d)
        (sorted_far (λ x y. is_lt (pair_cmp prop place x y)) (ranks_by by_pair (λ x. x)) ys sorted i j d (omega arith) in_range)
        (apart_from_distinct (equal_by (pair_cmp prop place)) ys i j d (IsDistinct-IsPermutation (equal_by (pair_cmp prop place)) (equal_flips by_pair) xs ys moved others) lt in_range)

    there : (i : ℕ) (d : X) → i < length xs → Contains ys (get_or xs i d)
    there i d lt = Contains-permutation xs ys (get_or xs i d) moved (i, lt, get_or_default xs i (get_or xs i d) d lt)

    -- the later one of two equal arrivals has an equal left neighbour
    double_shows : (i j : ℕ) (d : X) → i < j → j < length xs → prop_cmp (prop (get_or xs i d)) (prop (get_or xs j d)) ≡ Equal → (m : ℕ) × (m + 1 < length ys) × IsDoubleAt ys prop place m j
    double_shows i j d lt in_range same = found (there i d (omega arith)) (there j d in_range)
      where
        x : X
        x = get_or xs i d

        y : X
        y = get_or xs j d

        rises : pair_cmp prop place x y ≡ Less
        rises = rises_by_place x y same (omega (arith, lt, stand i d (omega arith), stand j d in_range))

        -- what stands at a place of the sorted list
        is_x : (a : ℕ) → a < length ys → get_or ys a x ≡ x → (e : X) → get_or ys a e ≡ x
        is_x a h s e = get_or_default ys a e x h ∙ s

        is_y : (b : ℕ) → b < length ys → get_or ys b y ≡ y → (e : X) → get_or ys b e ≡ y
        is_y b h s e = get_or_default ys b e y h ∙ s

        left : (a m : ℕ) → a < suc m → suc m < length ys → ((e : X) → get_or ys a e ≡ x) → ((e : X) → get_or ys (suc m) e ≡ y) → (e : X) → prop_cmp (prop (get_or ys m e)) (prop y) ≡ Equal
        left a m before m_in at_a at_m e = elim (cases_lt a m) [
          | inl under ↦
              let first : pair_cmp prop place x (get_or ys m e) ≡ Less = subst (λ (z : X). pair_cmp prop place z (get_or ys m e) ≡ Less) (at_a e) (strict a m e under (omega arith)) in
              let second : pair_cmp prop place (get_or ys m e) y ≡ Less = subst (λ (z : X). pair_cmp prop place (get_or ys m e) z ≡ Less) (at_m e) (strict m (suc m) e (omega arith) m_in) in
              equal_between prop_total (prop x) (prop (get_or ys m e)) (prop y) (not_above x (get_or ys m e) first) (not_above (get_or ys m e) y second) same
          | inr from ↦
              let there : a ≡ m = omega arith in
              subst (λ (z : X). prop_cmp (prop z) (prop y) ≡ Equal) (sym (subst (λ n. get_or ys n e ≡ x) there (at_a e))) same
        ]

        by : (a b : ℕ) → b < length ys → a < length ys → ((e : X) → get_or ys a e ≡ x) → ((e : X) → get_or ys b e ≡ y) → a < b → (m : ℕ) × (m + 1 < length ys) × IsDoubleAt ys prop place m j
        by a zero b_in a_in at_a at_b before = absurd (omega (arith, before))
        by a (suc m) b_in a_in at_a at_b before = (
          m,
          omega arith,
          record {
            in_range = omega arith;
            equal = λ e. subst (λ (z : X). prop_cmp (prop (get_or ys m e)) (prop z) ≡ Equal) (sym (at_next e)) (left a m before b_in at_a at_b e);
            place_is = λ e. ap place (at_next e) ∙ stand j d in_range;
          },
        )
          where
            next : suc m ≡ m + 1
            next = omega arith

            at_next : (e : X) → get_or ys (m + 1) e ≡ y
            at_next e = subst (λ n. get_or ys n e ≡ y) next (at_b e)

        found : Contains ys x → Contains ys y → (m : ℕ) × (m + 1 < length ys) × IsDoubleAt ys prop place m j
        found (a, a_in, s) (b, b_in, t) = elim (cases_lt a b) [
          | inl before ↦ by a b b_in a_in (is_x a a_in s) (is_y b b_in t) before
          | inr after ↦ elim (cases_lt b a) [
            | inl over ↦ absurd (never_both by_pair x y rises (subst (λ (z : X). pair_cmp prop place z x ≡ Less) (is_y b b_in t x) (subst (λ (z : X). pair_cmp prop place (get_or ys b x) z ≡ Less) (is_x a a_in s x) (strict b a x over a_in))))
            | inr under ↦
                let h : a ≡ b = omega arith in
                let e : x ≡ y = sym (is_x a a_in s x) ∙ (ap (λ n. get_or ys n x) h ∙ is_y b b_in t x) in
                absurd (irreflexive by_pair x (subst (λ (z : X). pair_cmp prop place x z ≡ Less) (sym e) rises))
          ]
        ]

    -- where there is no double, the arrivals are different
    none_double : IsLeastDouble ys prop place (length ys) None → (i j : ℕ) (d : X) → i < j → j < length xs → prop_cmp (prop (get_or xs i d)) (prop (get_or xs j d)) ≡ Equal → ⊥
    none_double least i j d lt in_range same = let shown = double_shows i j d lt in_range same in least.all shown.0 j shown.1 shown.2

    different : IsLeastDouble ys prop place (length ys) None → AreDifferent (map prop xs)
    different least i j d lt in_range same =
        let in_xs : j < length xs = omega (arith, in_range, length-map xs prop) in
        let e : X = some_of xs j in_xs in
        none_double least i j e lt in_xs (sym (ap (λ p. prop_cmp p (get_or (map prop xs) j d)) (get_or-map prop xs i e d (omega arith)) ∙ ap (λ p. prop_cmp (prop (get_or xs i e)) p) (get_or-map prop xs j e d in_xs)) ∙ same)

    distinct : IsLeastDouble ys prop place (length ys) None → IsDistinct (equal_by prop_cmp) (map prop xs)
    distinct least = different_distinct (map prop xs) (different least)

    moved_props : IsPermutation (map prop xs) (map prop ys)
    moved_props = IsPermutation-map prop xs ys moved

    sorted_props : IsLeastDouble ys prop place (length ys) None → IsStrictlySorted prop_cmp (map prop ys)
    sorted_props least i j d lt in_range =
        let in_ys : j < length ys = omega (arith, in_range, length-map ys prop) in
        let e : X = some_of ys j in_ys in
        let apart : equal_by prop_cmp (get_or (map prop ys) i d) (get_or (map prop ys) j d) ≡ false = apart_from_distinct (equal_by prop_cmp) (map prop ys) i j d (IsDistinct-IsPermutation (equal_by prop_cmp) (equal_flips prop_total) (map prop xs) (map prop ys) moved_props (distinct least)) lt in_range in
        let rises : pair_cmp prop place (get_or ys i e) (get_or ys j e) ≡ Less = strict i j e lt in_ys in
        less_or_equal prop_total (get_or (map prop ys) i d) (get_or (map prop ys) j d) apart
        (λ f. not_above (get_or ys i e) (get_or ys j e) rises (sym (ap (λ p. prop_cmp p (get_or (map prop ys) j d)) (get_or-map prop ys i e d (omega arith)) ∙ ap (λ p. prop_cmp (prop (get_or ys i e)) p) (get_or-map prop ys j e d in_ys)) ∙ f))

    all_sorted : IsLeastDouble ys prop place (length ys) None → map prop ys ≡ with_elements prop_cmp [] (map prop xs)
    all_sorted least =
        let good = elements_good prop_total (map prop xs) (distinct least) in
        same_sorted prop_total (map prop xs) (with_elements prop_cmp [] (map prop xs)) (map prop ys) good.1 moved_props good.0 (sorted_props least)

    -- an element of the sorted list stood at its place
    came_from : (k : ℕ) (d : X) → k < length ys → (place (get_or ys k d) < length xs) × (get_or xs (place (get_or ys k d)) (get_or ys k d) ≡ get_or ys k d)
    came_from k d lt = found (Contains-permutation ys xs (get_or ys k d) (IsPermutation-sym xs ys moved) (k, lt, get_or_default ys k (get_or ys k d) d lt))
      where
        found : Contains xs (get_or ys k d) → (place (get_or ys k d) < length xs) × (get_or xs (place (get_or ys k d)) (get_or ys k d) ≡ get_or ys k d)
        found (m, m_in, e) =
            let at : place (get_or ys k d) ≡ m = sym (ap place e) ∙ stand m (get_or ys k d) m_in in
            (omega (arith, at, m_in), subst (λ n. get_or xs n (get_or ys k d) ≡ get_or ys k d) (sym at) e)

    as_long : length ys ≡ length xs
    as_long = length_permutation xs ys moved

    place_at : (k : ℕ) (d : X) → k < length ys → get_or (map place ys) k 0 ≡ place (get_or ys k d)
    place_at k d lt = get_or-map place ys k d 0 lt

    -- two elements of the sorted list have two places
    places_differ : (i j : ℕ) (d : X) → i < j → j < length ys → place (get_or ys i d) ≡ place (get_or ys j d) → ⊥
    places_differ i j d lt in_range e =
        let one = came_from i d (omega (arith, lt, in_range)) in
        let other = came_from j d in_range in
        let same : get_or ys i d ≡ get_or ys j d = sym one.1 ∙ get_or_default xs (place (get_or ys i d)) (get_or ys i d) (get_or ys j d) one.0 ∙ ap (λ n. get_or xs n (get_or ys j d)) e ∙ other.1 in
        irreflexive by_pair (get_or ys j d) (subst (λ (z : X). pair_cmp prop place z (get_or ys j d) ≡ Less) same (strict i j d lt in_range))

    places_once : ArePlaces (map place ys)
    places_once = record {
      within = λ k lt.
          let lt' : k < length ys = omega (arith, lt, length-map ys place) in
          let d : X = some_of ys k lt' in
          omega (arith, place_at k d lt', (came_from k d lt').0, length-map ys place, as_long);
      apart = λ i j i_in j_in e.
          let i_in' : i < length ys = omega (arith, i_in, length-map ys place) in
          let j_in' : j < length ys = omega (arith, j_in, length-map ys place) in
          let d : X = some_of ys i i_in' in
          let same : place (get_or ys i d) ≡ place (get_or ys j d) = sym (place_at i d i_in') ∙ e ∙ place_at j d j_in' in
          elim (cases_lt i j) [
            | inl before ↦ absurd (places_differ i j d before j_in' same)
            | inr from ↦ elim (cases_lt j i) [
              | inl after ↦ absurd (places_differ j i d after i_in' (sym same))
              | inr to ↦ omega (arith, from, to)
            ]
          ];
      all = λ p lt.
          let p_in : p < length xs = omega (arith, lt, length-map ys place, as_long) in
          let d : X = some_of xs p p_in in
          found p d p_in (there p d p_in);
    }
      where
        found : (p : ℕ) (d : X) → p < length xs → Contains ys (get_or xs p d) → (k : ℕ) × (k < length (map place ys)) × (get_or (map place ys) k 0 ≡ p)
        found p d p_in (k, k_in, e) = (k, omega (arith, k_in, length-map ys place), place_at k (get_or xs p d) k_in ∙ (ap place e ∙ stand p d p_in))

    -- the elements at the places are the sorted ones
    picked : (d : Prop) → map (λ k. get_or (map prop xs) k d) (map place ys) ≡ map prop ys
    picked d = same_lists (map (λ k. get_or (map prop xs) k d) (map place ys)) (map prop ys) (length-map (map place ys) (λ k. get_or (map prop xs) k d) ∙ (length-map ys place ∙ sym (length-map ys prop))) (λ k e lt. at k e (omega (arith, lt, length-map (map place ys) (λ k. get_or (map prop xs) k d), length-map ys place)))
      where
        at : (k : ℕ) (e : Prop) → k < length ys → get_or (map (λ k. get_or (map prop xs) k d) (map place ys)) k e ≡ get_or (map prop ys) k e
        at k e lt =
            let f : X = some_of ys k lt in
            let y : X = get_or ys k f in
            let from = came_from k f lt in
            get_or-map (λ k. get_or (map prop xs) k d) (map place ys) k 0 e (omega (arith, lt, length-map ys place))
            ∙ (ap (λ n. get_or (map prop xs) n d) (place_at k f lt)
            ∙ (get_or-map prop xs (place y) y d from.0 ∙ (ap prop from.1 ∙ sym (get_or-map prop ys k f e lt))))

    -- where there is no double, the places are the order
    pub ordered : IsLeastDouble ys prop place (length ys) None → AreOrdered (map prop xs) (map place ys)
    ordered least = record {
      different = different least;
      places_are = places_once;
      each = length-map ys place ∙ (as_long ∙ sym (length-map xs prop));
      sorted = λ d. picked d ∙ all_sorted least;
    }

    -- where there is one, the least place of one is that of the first double
    pub first_is : (k : ℕ) → IsLeastDouble ys prop place (length ys) (Some k) → IsFirstDouble (map prop xs) k
    first_is k least = by least.found
      where
        by : (m : ℕ) × (m + 1 < length ys) × IsDoubleAt ys prop place m k → IsFirstDouble (map prop xs) k
        by (m, m_in, double) = first (back (m + 1) m_in) (back m (omega arith))
          where
            right : X
            right = get_or ys (m + 1) (some_of ys (m + 1) m_in)

            left : X
            left = get_or ys m (some_of ys (m + 1) m_in)

            back : (n : ℕ) → n < length ys → Contains xs (get_or ys n (some_of ys (m + 1) m_in))
            back n lt = Contains-permutation ys xs (get_or ys n (some_of ys (m + 1) m_in)) (IsPermutation-sym xs ys moved) (n, lt, get_or_default ys n (get_or ys n (some_of ys (m + 1) m_in)) (some_of ys (m + 1) m_in) lt)

            equal : prop_cmp (prop left) (prop right) ≡ Equal
            equal = double.equal (some_of ys (m + 1) m_in)

            rises : place left < place right
            rises = places_rise left right (strict m (m + 1) (some_of ys (m + 1) m_in) (omega arith) m_in) equal

            place_is : place right ≡ k
            place_is = double.place_is (some_of ys (m + 1) m_in)

            first : Contains xs right → Contains xs left → IsFirstDouble (map prop xs) k
            first (j, j_in, r) (i, i_in, l) = record {
              in_range = k_in;
              prop = prop right;
              here = view_read prop xs k right (sym at_k) k_in;
              double = (i, prop left, omega (arith, i_under, taken), get_or-take k (map prop xs) i (prop left) i_under ∙ (get_or-map prop xs i left (prop left) i_in ∙ ap prop l), equal);
              before = before;
            }
              where
                j_is : j ≡ k
                j_is = sym (stand j right j_in) ∙ (ap place r ∙ place_is)

                i_is : place left ≡ i
                i_is = sym (ap place l) ∙ stand i left i_in

                at_k : get_or xs k right ≡ right
                at_k = subst (λ n. get_or xs n right ≡ right) j_is r

                k_in : k < length (map prop xs)
                k_in = omega (arith, length-map xs prop, j_is, j_in)

                i_under : i < k
                i_under = omega (arith, i_is, rises, place_is)

                taken : length (take k (map prop xs)) ≡ k
                taken = length-take-le k (map prop xs) (omega (arith, k_in))

                before : AreDifferent (take k (map prop xs))
                before a b d lt in_range same =
                    let b_under : b < k = omega (arith, in_range, taken) in
                    let in_xs : b < length xs = omega (arith, length-map xs prop, k_in, b_under) in
                    let at_a : get_or (take k (map prop xs)) a d ≡ prop (get_or xs a right) = get_or-take k (map prop xs) a d (omega arith) ∙ get_or-map prop xs a right d (omega arith) in
                    let at_b : get_or (take k (map prop xs)) b d ≡ prop (get_or xs b right) = get_or-take k (map prop xs) b d b_under ∙ get_or-map prop xs b right d in_xs in
                    let shown = double_shows a b right lt in_xs (sym (ap (λ p. prop_cmp p (get_or (take k (map prop xs)) b d)) at_a ∙ ap (λ p. prop_cmp (prop (get_or xs a right)) p) at_b) ∙ same) in
                    let least_of : k ≤ b = least.all shown.0 b shown.1 shown.2 in
                    omega (arith, least_of, b_under)
