-- A strictly sorted list is known by its elements, and one more element changes it as expected.
use Rattle.std.proofs.Common.{◌≡◌, ◌⊎◌, inl, inr, ℕ, zero, suc, ◌<◌, ◌≤◌, length, get_or, List, [], ◌∷◌, ◌++◌, refl, sym, ap, subst, ◌∙◌, arith, append_assoc}
use Rattle.std.specs.Prelude.{IsPermutation, Contains}
use Rattle.std.specs.Cmp.{IsTotalOrder}
use Rattle.std.specs.Ordering.{ordering_reverse}
use Rattle.std.specs.declared.cmp.Ordering.{Ordering}
use Rattle.std.specs.declared.cmp.Ordering.TheVariants.{Less, Equal, Greater}
use Rattle.std.proofs.lemmas.List.{get_or_append_left, length-append}
use Rattle.std.proofs.lemmas.List.Sorted.{Contains-permutation, IsPermutation-sym, IsPermutation-insert}
use Rattle.carrier_model.specs.Places.{IsGap}
use Rattle.carrier_model.specs.Sorted.{IsStrictlySorted, with_element}
use Rattle.carrier_model.proofs.Place.{with_element_gap, sorted_insert}

pub in_head : {A : Type 0} (x : A) (xs : List A) → Contains (x ∷ xs) x
in_head x xs = (0, omega arith, refl)

pub in_tail : {A : Type 0} (x y : A) (xs : List A) → Contains xs y → Contains (x ∷ xs) y
in_tail x y xs (k, lt, e) = (suc k, omega arith, e)

-- what stands at the front of a sorted list is sorted
sorted_front : {A : Type 0} (R : A → A → Ordering) (xs ys : List A) → IsStrictlySorted R (xs ++ ys) → IsStrictlySorted R xs
sorted_front R xs ys h i j d lt in_range =
    subst (λ x. R x (get_or xs j d) ≡ Less) (get_or_append_left xs ys d i (omega (arith, lt, in_range)))
    (subst (λ y. R (get_or (xs ++ ys) i d) y ≡ Less) (get_or_append_left xs ys d j in_range)
    (h i j d lt (omega (arith, in_range, length-append xs ys))))

pub sorted_to : {A : Type 0} (R : A → A → Ordering) (xs ys : List A) (x : A) → IsStrictlySorted R (xs ++ x ∷ ys) → IsStrictlySorted R (xs ++ x ∷ [])
sorted_to R xs ys x s = sorted_front R (xs ++ x ∷ []) ys (subst (IsStrictlySorted R) (sym (append_assoc xs (x ∷ []) ys)) s)

module _ {A : Type 0} {R : A → A → Ordering} (o : IsTotalOrder R) where
  irreflexive : (x : A) → R x x ≡ Less → ⊥
  irreflexive x e = let h : Less ≡ Greater = sym e ∙ (o.antisymm x x ∙ ap ordering_reverse e) in cc

  never_both : (x y : A) → R x y ≡ Less → R y x ≡ Less → ⊥
  never_both x y e f = let h : Less ≡ Greater = sym e ∙ (o.antisymm x y ∙ ap ordering_reverse f) in cc

  pub tail_sorted : (x : A) (xs : List A) → IsStrictlySorted R (x ∷ xs) → IsStrictlySorted R xs
  tail_sorted x xs h i j d lt in_range = h (suc i) (suc j) d (omega arith) (omega arith)

  pub head_less : (x : A) (xs : List A) (y : A) → IsStrictlySorted R (x ∷ xs) → Contains xs y → R x y ≡ Less
  head_less x xs y h (k, lt, e) = subst (λ (z : A). R x z ≡ Less) e (h 0 (suc k) y (omega arith) (omega arith))

  -- an element is the head, or above it in the tail
  head_or_above : (x : A) (xs : List A) (y : A) → IsStrictlySorted R (x ∷ xs) → Contains (x ∷ xs) y → (x ≡ y) ⊎ ((R x y ≡ Less) × Contains xs y)
  head_or_above x xs y h (zero, lt, e) = inl e
  head_or_above x xs y h (suc k, lt, e) =
      let there : Contains xs y = (k, omega arith, e) in
      inr (head_less x xs y h there, there)

  -- what is above the head is in the tail
  tail_of : (x : A) (xs : List A) (y : A) → R x y ≡ Less → IsStrictlySorted R (x ∷ xs) → Contains (x ∷ xs) y → Contains xs y
  tail_of x xs y less h c = elim (head_or_above x xs y h c) [
    | inl e ↦ absurd (irreflexive y (subst (λ (z : A). R z y ≡ Less) e less))
    | inr d ↦ d.1
  ]

  -- two strictly sorted lists are one where each has the other's elements
  pub same_elements : (xs ys : List A) → IsStrictlySorted R xs → IsStrictlySorted R ys → ((z : A) → Contains xs z → Contains ys z) → ((z : A) → Contains ys z → Contains xs z) → ys ≡ xs
  same_elements [] [] g h f b = refl
  same_elements [] (y ∷ ys) g h f b = let c : Contains [] y = b y (in_head y ys) in absurd (omega (arith, c.1))
  same_elements (x ∷ xs) [] g h f b = let c : Contains [] x = f x (in_head x xs) in absurd (omega (arith, c.1))
  same_elements (x ∷ xs) (y ∷ ys) g h f b =
      let same : y ≡ x = heads (head_or_above y ys x h (f x (in_head x xs))) (head_or_above x xs y g (b y (in_head y ys))) in
      let tails : ys ≡ xs = same_elements xs ys (tail_sorted x xs g) (tail_sorted y ys h)
      (λ z c. tail_of y ys z (subst (λ (w : A). R w z ≡ Less) (sym same) (head_less x xs z g c)) h (f z (in_tail x z xs c)))
      (λ z c. tail_of x xs z (subst (λ (w : A). R w z ≡ Less) same (head_less y ys z h c)) g (b z (in_tail y z ys c))) in
      cc
    where
      heads : ((y ≡ x) ⊎ ((R y x ≡ Less) × Contains ys x)) → ((x ≡ y) ⊎ ((R x y ≡ Less) × Contains xs y)) → y ≡ x
      heads (inl e) _ = e
      heads (inr a) (inl e) = sym e
      heads (inr a) (inr c) = absurd (never_both y x a.0 c.0)

  -- two strictly sorted lists of the same elements are one
  pub same_sorted : (l m n : List A) → IsPermutation l m → IsPermutation l n → IsStrictlySorted R m → IsStrictlySorted R n → n ≡ m
  same_sorted l m n p q g h =
      same_elements m n g h
      (λ z c. Contains-permutation l n z q (Contains-permutation m l z (IsPermutation-sym l m p) c))
      (λ z c. Contains-permutation l m z p (Contains-permutation n l z (IsPermutation-sym l n q) c))

module _ {A : Type 0} {R : A → A → Ordering} (o : IsTotalOrder R) where
  -- an element that is equal to none goes into a gap
  pub gap_in : (l : List A) (x : A) → IsStrictlySorted R l → ((y : A) → Contains l y → R y x ≡ Equal → ⊥) → (i : ℕ) × IsGap R l x i
  gap_in [] x s new = (0, record { in_range = omega arith; below = λ j d lt. absurd (omega (arith, lt)); above = λ j d le lt. absurd (omega (arith, lt)) })
  gap_in (y ∷ ys) x s new = by (R y x) refl (gap_in ys x (tail_sorted o y ys s) (λ z c. new z (in_tail y z ys c)))
    where
      flipped : (a b : A) → R a b ≡ Greater → R b a ≡ Less
      flipped a b e = o.antisymm b a ∙ ap ordering_reverse e

      behind : (j : ℕ) (d : A) → j < length ys → R y x ≡ Greater → R (get_or ys j d) x ≡ Greater
      behind j d lt e = o.antisymm (get_or ys j d) x ∙ ap ordering_reverse (o.trans x y (get_or ys j d) (flipped y x e) (s 0 (suc j) d (omega arith) (omega arith)))

      by : (a : Ordering) → R y x ≡ a → ((i : ℕ) × IsGap R ys x i) → (i : ℕ) × IsGap R (y ∷ ys) x i
      by Less e (i, g) = (suc i, record { in_range = omega (arith, g.in_range); below = under; above = over })
        where
          under : (j : ℕ) (d : A) → j < suc i → R (get_or (y ∷ ys) j d) x ≡ Less
          under zero d lt = e
          under (suc j) d lt = g.below j d (omega arith)

          over : (j : ℕ) (d : A) → suc i ≤ j → j < length (y ∷ ys) → R (get_or (y ∷ ys) j d) x ≡ Greater
          over zero d le lt = absurd (omega arith)
          over (suc j) d le lt = g.above j d (omega arith) (omega arith)
      by Equal e rest = absurd (new y (in_head y ys) e)
      by Greater e rest = (0, record { in_range = omega arith; below = λ j d lt. absurd (omega (arith, lt)); above = over })
        where
          over : (j : ℕ) (d : A) → 0 ≤ j → j < length (y ∷ ys) → R (get_or (y ∷ ys) j d) x ≡ Greater
          over zero d le lt = e
          over (suc j) d le lt = behind j d (omega arith) e

  -- the list with it is sorted
  pub with_element_sorted : (l : List A) (x : A) → IsStrictlySorted R l → ((y : A) → Contains l y → R y x ≡ Equal → ⊥) → IsStrictlySorted R (with_element R l x)
  with_element_sorted l x s new = let g = gap_in l x s new in subst (λ (m : List A). IsStrictlySorted R m) (sym (with_element_gap o l x g.0 g.1)) (sorted_insert o l x g.0 s g.1)

  -- and has it beside the others
  pub with_element_permutes : (l : List A) (x : A) → IsStrictlySorted R l → ((y : A) → Contains l y → R y x ≡ Equal → ⊥) → IsPermutation (x ∷ l) (with_element R l x)
  with_element_permutes l x s new = let g = gap_in l x s new in subst (λ (m : List A). IsPermutation (x ∷ l) m) (sym (with_element_gap o l x g.0 g.1)) (IsPermutation-insert l g.0 x)
