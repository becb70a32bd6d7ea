-- Elements of which no two are equal by an order, and the sorted list of them.
use Rattle.std.proofs.Common.{◌≡◌, zero, suc, ◌+◌, ◌≤◌, length, List, [], ◌∷◌, ◌++◌, Bool, true, false, refl, sym, ap, subst, ◌∙◌, arith}
use Rattle.std.specs.Prelude.{IsPermutation, Contains}
use Rattle.std.specs.Cmp.{IsTotalOrder}
use Rattle.std.specs.List.{AllByRecursion, IsDistinct}
use Rattle.std.specs.Ordering.{ordering_reverse}
use Rattle.std.specs.declared.cmp.Ordering.{Ordering}
use Rattle.std.specs.declared.cmp.Ordering.TheVariants.{Less, Equal, Greater}
use Rattle.std.proofs.lemmas.List.{append-nil}
use Rattle.std.proofs.lemmas.List.Sorted.{IsPermutation-refl, IsPermutation-sym, IsPermutation-trans, IsPermutation-middle, IsPermutation-append_right}
use Rattle.std.proofs.lemmas.Map.Keys.{IsDistinct-IsPermutation}
use Rattle.carrier_model.specs.Sorted.{IsStrictlySorted, choose, with_element, with_elements}
use Rattle.std.proofs.lemmas.Map.Lookups.{CmpEqualImpliesEq}
use Rattle.carrier_model.proofs.SortedLists.{tail_sorted, head_less, in_head, in_tail, with_element_sorted, with_element_permutes}

pub every_at : {A : Type 0} (P : A → Type 0) (xs : List A) (y : A) → AllByRecursion P xs → Contains xs y → P y
every_at P [] y all (k, lt, e) = absurd (omega (arith, lt))
every_at P (x ∷ xs) y all (zero, lt, e) = subst P e all.0
every_at P (x ∷ xs) y all (suc k, lt, e) = every_at P xs y all.1 (k, omega (arith, lt), e)

pub every_from : {A : Type 0} (P : A → Type 0) (xs : List A) → ((y : A) → Contains xs y → P y) → AllByRecursion P xs
every_from P [] f = tt
every_from P (x ∷ xs) f = (f x (0, omega arith, refl), every_from P xs (λ y c. f y (in_tail x y xs c)))

in_right : {A : Type 0} (xs ys : List A) (y : A) → Contains ys y → Contains (xs ++ ys) y
in_right [] ys y c = c
in_right (x ∷ xs) ys y c = in_tail x y (xs ++ ys) (in_right xs ys y c)

-- whether two elements are equal by an order
abbrev pub equal_by : {A : Type 0} → (A → A → Ordering) → A → A → Bool
equal_by R x y = choose (R y x) false true false

module _ {A : Type 0} {R : A → A → Ordering} (o : IsTotalOrder R) where
  pub equal_flips : (x y : A) → equal_by R x y ≡ equal_by R y x
  equal_flips x y = by (R x y) (R y x) (o.antisymm y x)
    where
      by : (a b : Ordering) → b ≡ ordering_reverse a → choose b false true false ≡ choose a false true false
      by Less b e = rw e refl
      by Equal b e = rw e refl
      by Greater b e = rw e refl

  pub sorted_distinct : (m : List A) → IsStrictlySorted R m → IsDistinct (equal_by R) m
  unfolding IsDistinct
  sorted_distinct [] s = tt
  sorted_distinct (x ∷ xs) s = (every_from (λ y. equal_by R x y ≡ false) xs (λ y c. equal_flips x y ∙ ap (λ a. choose a false true false) (head_less o x xs y s c)), sorted_distinct xs (tail_sorted o x xs s))

  -- so is the list of which the sorted one has each element
  pub permuted_distinct : (l m : List A) → IsPermutation l m → IsStrictlySorted R m → IsDistinct (equal_by R) l
  permuted_distinct l m p s = IsDistinct-IsPermutation (equal_by R) equal_flips m l (IsPermutation-sym l m p) (sorted_distinct m s)

  not_equal : (x y : A) → equal_by R x y ≡ false → R y x ≡ Equal → ⊥
  not_equal x y e f = let h : true ≡ false = sym (ap (λ a. choose a false true false) f) ∙ e in cc

  pub with_elements_good : (ps m : List A) → IsStrictlySorted R m → IsDistinct (equal_by R) (ps ++ m) → IsStrictlySorted R (with_elements R m ps) × IsPermutation (ps ++ m) (with_elements R m ps)
  unfolding IsDistinct
  with_elements_good [] m s d = (s, IsPermutation-refl m)
  with_elements_good (p ∷ ps) m s d =
      let new : (y : A) → Contains m y → R y p ≡ Equal → ⊥ = λ y c e. not_equal p y (every_at (λ z. equal_by R p z ≡ false) (ps ++ m) y d.0 (in_right ps m y c)) e in
      let more : List A = with_element R m p in
      let sorted : IsStrictlySorted R more = with_element_sorted o m p s new in
      let there : IsPermutation (p ∷ (ps ++ m)) (ps ++ more) = IsPermutation-trans (p ∷ (ps ++ m)) (ps ++ p ∷ m) (ps ++ more) (IsPermutation-sym (ps ++ p ∷ m) (p ∷ (ps ++ m)) (IsPermutation-middle ps p m)) (IsPermutation-append_right ps (p ∷ m) more (with_element_permutes o m p s new)) in
      let rest = with_elements_good ps more sorted (IsDistinct-IsPermutation (equal_by R) equal_flips (p ∷ (ps ++ m)) (ps ++ more) there d) in
      (rest.0, IsPermutation-trans (p ∷ (ps ++ m)) (ps ++ more) (with_elements R more ps) there rest.1)

  nothing_sorted : IsStrictlySorted R []
  nothing_sorted i j d lt in_range = absurd (omega (arith, in_range))

  pub elements_good : (ps : List A) → IsDistinct (equal_by R) ps → IsStrictlySorted R (with_elements R [] ps) × IsPermutation ps (with_elements R [] ps)
  elements_good ps d =
      let good = with_elements_good ps [] nothing_sorted (subst (IsDistinct (equal_by R)) (sym (append-nil ps)) d) in
      (good.0, subst (λ (l : List A). IsPermutation l (with_elements R [] ps)) (append-nil ps) good.1)

-- one more of some elements
pub with_elements-push : {A : Type 0} (R : A → A → Ordering) (m ps : List A) (p : A) → with_elements R m (ps ++ p ∷ []) ≡ with_element R (with_elements R m ps) p
with_elements-push R m [] p = refl
with_elements-push R m (q ∷ ps) p = with_elements-push R (with_element R m q) ps p

-- what holds of what was there, and of what is put in
every_element : {A : Type 0} (R : A → A → Ordering) (P : A → Type 0) (m : List A) (x : A) → AllByRecursion P m → P x → AllByRecursion P (with_element R m x)
every_element R P [] x all one = (one, tt)
every_element R P (z ∷ m) x all one = by (every_element R P m x all.1 one) (R z x)
  where
    by : AllByRecursion P (with_element R m x) → (o : Ordering) → AllByRecursion P (choose o (z ∷ with_element R m x) (z ∷ m) (x ∷ z ∷ m))
    by rest Less = (all.0, rest)
    by rest Equal = all
    by rest Greater = (one, all)

pub every_elements : {A : Type 0} (R : A → A → Ordering) (P : A → Type 0) (ps m : List A) → AllByRecursion P m → AllByRecursion P ps → AllByRecursion P (with_elements R m ps)
every_elements R P [] m all new = all
every_elements R P (p ∷ ps) m all new = every_elements R P ps (with_element R m p) (every_element R P m p all new.0) new.1

-- no more than are put in
length_element : {A : Type 0} (R : A → A → Ordering) (m : List A) (x : A) → length (with_element R m x) ≤ suc (length m)
length_element R [] x = omega arith
length_element R (z ∷ m) x = by (length_element R m x) (R z x)
  where
    by : length (with_element R m x) ≤ suc (length m) → (o : Ordering) → length (choose o (z ∷ with_element R m x) (z ∷ m) (x ∷ z ∷ m)) ≤ suc (suc (length m))
    by le Less = omega (arith, le)
    by le Equal = omega arith
    by le Greater = omega arith

pub length_elements : {A : Type 0} (R : A → A → Ordering) (ps m : List A) → length (with_elements R m ps) ≤ length m + length ps
length_elements R [] m = omega arith
length_elements R (p ∷ ps) m = omega (arith, length_elements R ps (with_element R m p), length_element R m p)

-- what was there stays, and what is put in is there, by an order that makes no two elements equal
module _ {A : Type 0} {R : A → A → Ordering} (exact : CmpEqualImpliesEq R) where
  kept_element : (m : List A) (x y : A) → Contains m y → Contains (with_element R m x) y
  kept_element [] x y (k, lt, e) = absurd (omega (arith, lt))
  kept_element (z ∷ m) x y (zero, lt, e) = by (R z x)
    where
      by : (o : Ordering) → Contains (choose o (z ∷ with_element R m x) (z ∷ m) (x ∷ z ∷ m)) y
      by Less = (zero, omega arith, e)
      by Equal = (zero, lt, e)
      by Greater = (suc zero, omega (arith, lt), e)
  kept_element (z ∷ m) x y (suc k, lt, e) = by (kept_element m x y (k, omega (arith, lt), e)) (R z x)
    where
      by : Contains (with_element R m x) y → (o : Ordering) → Contains (choose o (z ∷ with_element R m x) (z ∷ m) (x ∷ z ∷ m)) y
      by c Less = in_tail z y (with_element R m x) c
      by c Equal = (suc k, lt, e)
      by c Greater = (suc (suc k), omega (arith, lt), e)

  new_element : (m : List A) (x : A) → Contains (with_element R m x) x
  new_element [] x = in_head x []
  new_element (z ∷ m) x = by (new_element m x) (R z x) refl
    where
      by : Contains (with_element R m x) x → (o : Ordering) → R z x ≡ o → Contains (choose o (z ∷ with_element R m x) (z ∷ m) (x ∷ z ∷ m)) x
      by c Less e = in_tail z x (with_element R m x) c
      by c Equal e = subst (λ (w : A). Contains (w ∷ m) x) (sym (exact z x e)) (in_head x m)
      by c Greater e = in_head x (z ∷ m)

  kept_elements : (ps m : List A) (y : A) → Contains m y → Contains (with_elements R m ps) y
  kept_elements [] m y c = c
  kept_elements (p ∷ ps) m y c = kept_elements ps (with_element R m p) y (kept_element m p y c)

  pub all_elements : (ps m : List A) (y : A) → Contains ps y → Contains (with_elements R m ps) y
  all_elements [] m y (k, lt, e) = absurd (omega (arith, lt))
  all_elements (p ∷ ps) m y (zero, lt, e) = kept_elements ps (with_element R m p) y (subst (Contains (with_element R m p)) e (new_element m p))
  all_elements (p ∷ ps) m y (suc k, lt, e) = all_elements ps (with_element R m p) y (k, omega (arith, lt), e)
