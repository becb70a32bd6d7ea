-- Some elements, each once in the order: from a list that is sorted already, and from one in any order.
use Rattle.std.proofs.Common.{◌≡◌, Bool, cond, ℕ, zero, suc, ◌-◌, ◌<◌, length, get_or, List, [], ◌∷◌, ◌++◌, take, map, false, refl, sym, ap, subst, inl, inr, ◌∙◌, arith}
use native.Mathlib.Numerals.{unary_clauses}
use Rattle.std.specs.Prelude.{IsPermutation, Contains, All, Some, slice_get}
use Rattle.std.specs.Cmp.{IsTotalOrder, tied_itself, upto}
use Rattle.std.specs.List.{AllByRecursion, dedup, dedup_from}
use Rattle.std.specs.List.Sorted.{IsSortedBy}
use Rattle.std.specs.Ordering.{ordering_reverse, is_eq, is_gt, is_lt}
use Rattle.std.specs.declared.cmp.Ordering.{Ordering}
use Rattle.std.specs.declared.cmp.Ordering.TheVariants.{Less, Equal, Greater}
use Rattle.std.proofs.lemmas.Bool.{cases_lt}
use Rattle.std.proofs.lemmas.List.{append_assoc, length-append}
use Rattle.std.proofs.lemmas.List.Edits.{insert_end}
use Rattle.std.proofs.lemmas.List.Sorted.{Contains-permutation, IsPermutation-sym, IsPermutation-map, ranks_by, sorted_far}
use Rattle.std.proofs.lemmas.Map.Lookups.{CmpEqualImpliesEq}
use Rattle.std.proofs.lemmas.Option.{slice_get-get_or, slice_get_within, get_or_from_slice_get}
use Rattle.carrier_model.specs.Places.{IsGap}
use Rattle.carrier_model.specs.Sorted.{IsStrictlySorted, choose, with_element, with_elements}
use Rattle.carrier_model.proofs.Place.{with_element_gap, with_element_there}
use Rattle.carrier_model.proofs.SortedElements.{every_at, every_from, every_elements, all_elements}
use Rattle.carrier_model.proofs.SortedLists.{tail_sorted, head_less, same_elements}

all_at : {A : Type 0} (P : A → Type 0) (xs : List A) (j : ℕ) (d : A) → AllByRecursion P xs → j < length xs → P (get_or xs j d)
all_at P [] j d all lt = absurd (omega (arith, lt))
all_at P (x ∷ xs) zero d all lt = all.0
all_at P (x ∷ xs) (suc j) d all lt = all_at P xs j d all.1 (omega arith)

-- what holds of the elements before a place, seen by f
all_before : {X A : Type 0} (P : A → Type 0) (f : X → A) (xs : List X) (i : ℕ) → ((k : ℕ) (d : X) → k < i → k < length xs → P (f (get_or xs k d))) → AllByRecursion P (map f (take i xs))
all_before P f [] zero h = tt
all_before P f [] (suc i) h = tt
all_before P f (x ∷ xs) zero h = tt
all_before P f (x ∷ xs) (suc i) h = (h 0 x (omega arith) (omega arith), all_before P f xs i (λ k d lt in_range. h (suc k) d (omega arith) (omega arith)))

module _ {A : Type 0} {R : A → A → Ordering} (o : IsTotalOrder R) where
  cons_sorted : (y : A) (l : List A) → AllByRecursion (λ z. R y z ≡ Less) l → IsStrictlySorted R l → IsStrictlySorted R (y ∷ l)
  cons_sorted y l all s zero zero d lt in_range = absurd (omega arith)
  cons_sorted y l all s zero (suc j) d lt in_range = all_at (λ z. R y z ≡ Less) l j d all (omega arith)
  cons_sorted y l all s (suc i) zero d lt in_range = absurd (omega arith)
  cons_sorted y l all s (suc i) (suc j) d lt in_range = s i j d (omega arith) (omega arith)

  more_sorted : (m : List A) (x : A) → IsStrictlySorted R m → IsStrictlySorted R (with_element R m x)
  more_sorted [] x s = cons_sorted x [] tt s
  more_sorted (y ∷ ys) x s = by (more_sorted ys x (tail_sorted o y ys s)) (R y x) refl
    where
      above : AllByRecursion (λ z. R y z ≡ Less) ys
      above = every_from (λ z. R y z ≡ Less) ys (λ z c. head_less o y ys z s c)

      by : IsStrictlySorted R (with_element R ys x) → (a : Ordering) → R y x ≡ a → IsStrictlySorted R (choose a (y ∷ with_element R ys x) (y ∷ ys) (x ∷ y ∷ ys))
      by rest Less e = cons_sorted y (with_element R ys x) (every_elements R (λ z. R y z ≡ Less) (x ∷ []) ys above (e, tt)) rest
      by rest Equal e = s
      by rest Greater e =
          let first : R x y ≡ Less = o.antisymm x y ∙ ap ordering_reverse e in
          cons_sorted x (y ∷ ys) (first, every_from (λ z. R x z ≡ Less) ys (λ z c. o.trans x y z first (head_less o y ys z s c))) s

  all_sorted : (ps m : List A) → IsStrictlySorted R m → IsStrictlySorted R (with_elements R m ps)
  all_sorted [] m s = s
  all_sorted (p ∷ ps) m s = all_sorted ps (with_element R m p) (more_sorted m p s)

  -- the sorted list of some elements
  pub gathered_sorted : (ps : List A) → IsStrictlySorted R (with_elements R [] ps)
  gathered_sorted ps = all_sorted ps [] (λ i j d lt in_range. absurd (omega (arith, in_range)))

  only_elements : (ps : List A) (y : A) → Contains (with_elements R [] ps) y → Contains ps y
  only_elements ps y c = every_at (Contains ps) (with_elements R [] ps) y (every_elements R (Contains ps) ps [] tt (every_from (Contains ps) ps (λ z there. there))) c

  -- their order doesn't matter
  gathered_same : CmpEqualImpliesEq R → (ps qs : List A) → IsPermutation ps qs → with_elements R [] qs ≡ with_elements R [] ps
  gathered_same exact ps qs p = same_elements o (with_elements R [] ps) (with_elements R [] qs) (gathered_sorted ps) (gathered_sorted qs)
      (λ z c. all_elements exact qs [] z (Contains-permutation ps qs z p (only_elements ps z c)))
      (λ z c. all_elements exact ps [] z (Contains-permutation qs ps z (IsPermutation-sym ps qs p) (only_elements qs z c)))

  -- an element that is last already
  last_again : (m : List A) (x : A) → IsStrictlySorted R m → slice_get m (length m - 1) ≡ Some x → with_element R m x ≡ m
  last_again m x s last =
      let in_range : length m - 1 < length m = slice_get_within m (length m - 1) x last in
      with_element_there o m x (length m - 1) s (record { in_range = in_range; equal = λ d. rw (get_or_from_slice_get m (length m - 1) x d last) (tied_itself o x) })

  -- an element that is below none, and isn't last already, goes behind all
  next_last : CmpEqualImpliesEq R → (m : List A) (x : A) → IsStrictlySorted R m → AllByRecursion (λ y. is_lt (R x y) ≡ false) m → (slice_get m (length m - 1) ≡ Some x → ⊥) → with_element R m x ≡ m ++ x ∷ []
  next_last exact m x s none differs = with_element_gap o m x (length m) gap ∙ insert_end m x
    where
      by : (y : A) (a : Ordering) → R y x ≡ a → is_lt (R x y) ≡ false → slice_get m (length m - 1) ≡ Some y → R y x ≡ Less
      by y Less e h last = e
      by y Equal e h last = absurd (differs (last ∙ ap Some (exact y x e)))
      by y Greater e h last = let f : R x y ≡ Less = o.antisymm x y ∙ ap ordering_reverse e in cc

      last_below : (d : A) → 0 < length m → R (get_or m (length m - 1) d) x ≡ Less
      last_below d some =
          let y = get_or m (length m - 1) d in
          by y (R y x) refl (all_at (λ z. is_lt (R x z) ≡ false) m (length m - 1) d none (omega arith)) (slice_get-get_or m (length m - 1) d (omega arith))

      under : (j : ℕ) (d : A) → j < length m → R (get_or m j d) x ≡ Less
      under j d lt = elim (cases_lt j (length m - 1)) [
        | inl before ↦ o.trans (get_or m j d) (get_or m (length m - 1) d) x (s j (length m - 1) d before (omega arith)) (last_below d (omega arith))
        | inr from ↦ let e : j ≡ length m - 1 = omega arith in rw e (last_below d (omega arith))
      ]

      gap : IsGap R m x (length m)
      gap = record { in_range = omega arith; below = under; above = λ j d le lt. absurd (omega arith) }

all_behind : {A : Type 0} (P : A → Type 0) (xs : List A) (x : A) → AllByRecursion P xs → P x → AllByRecursion P (xs ++ x ∷ [])
all_behind P [] x all h = (h, tt)
all_behind P (y ∷ ys) x all h = (all.0, all_behind P ys x all.1 h)

all_so : {A : Type 0} (P Q : A → Type 0) → ((x : A) → P x → Q x) → (xs : List A) → AllByRecursion P xs → AllByRecursion Q xs
all_so P Q f [] all = tt
all_so P Q f (x ∷ xs) all = (f x all.0, all_so P Q f xs all.1)

last_at : {A : Type 0} (xs : List A) (x : A) → slice_get (xs ++ x ∷ []) (length xs) ≡ Some x
last_at [] x = refl
last_at (y ∷ ys) x = last_at ys x

last_of : {A : Type 0} (xs : List A) (x : A) → slice_get (xs ++ x ∷ []) (length (xs ++ x ∷ []) - 1) ≡ Some x
last_of xs x = let e : length (xs ++ x ∷ []) - 1 ≡ length xs = omega (arith, length-append xs (x ∷ [])) in rw e (last_at xs x)

-- a sorted list without the elements that come again, by a view of its elements
module _ {X A : Type 0} {R : A → A → Ordering} (o : IsTotalOrder R) (exact : CmpEqualImpliesEq R) (f : X → A) where
  abbrev pub same : X → X → Bool
  same a b = is_eq (R (f a) (f b))

  abbrev pub lower : X → X → Bool
  lower a b = is_lt (R (f a) (f b))

  turned : (a : Ordering) → is_lt a ≡ false → is_gt (ordering_reverse a) ≡ false
  turned Less h = absurd cc
  turned Equal h = refl
  turned Greater h = refl

  turned_back : (a : Ordering) → is_gt a ≡ false → is_lt (ordering_reverse a) ≡ false
  turned_back Less h = refl
  turned_back Equal h = refl
  turned_back Greater h = absurd cc

  -- without its second element
  second_gone : (y z : X) (zs : List X) → IsSortedBy lower (y ∷ z ∷ zs) → IsSortedBy lower (y ∷ zs)
  second_gone y z zs up zero d low high = sorted_far lower (ranks_by o f) (y ∷ z ∷ zs) up 0 2 d (omega arith) (omega (arith, high))
  second_gone y z zs up (suc k) d low high = let h = simp unary_clauses at (up (suc (suc k)) d (omega arith) (omega (arith, high))) in simp unary_clauses h

  -- one turn, given what the two turns after it say
  module _ (front : List A) (y z : X) (zs : List X) where
    abbrev m : List A
    m = front ++ f y ∷ []

    turn : IsStrictlySorted R m → AllByRecursion (λ w. is_gt (R w (f y)) ≡ false) m → is_lt (R (f z) (f y)) ≡ false → (with_elements R m (map f zs) ≡ front ++ map f (dedup_from same y zs)) → (IsStrictlySorted R (m ++ f z ∷ []) → AllByRecursion (λ w. is_gt (R w (f z)) ≡ false) (m ++ f z ∷ []) → with_elements R (m ++ f z ∷ []) (map f zs) ≡ m ++ map f (dedup_from same z zs)) → with_elements R (with_element R m (f z)) (map f zs) ≡ front ++ map f (cond (is_eq (R (f z) (f y))) (dedup_from same y zs) (y ∷ dedup_from same z zs))
    turn s below not_lower gone kept = by (R (f z) (f y)) refl
      where
        step : is_gt (R (f y) (f z)) ≡ false
        step = ap is_gt (o.antisymm (f y) (f z)) ∙ turned (R (f z) (f y)) not_lower

        below_next : AllByRecursion (λ w. is_gt (R w (f z)) ≡ false) m
        below_next = all_so (λ w. is_gt (R w (f y)) ≡ false) (λ w. is_gt (R w (f z)) ≡ false) (λ w h. upto o w (f y) (f z) h step) m below

        none : AllByRecursion (λ w. is_lt (R (f z) w) ≡ false) m
        none = all_so (λ w. is_gt (R w (f z)) ≡ false) (λ w. is_lt (R (f z) w) ≡ false) (λ w h. ap is_lt (o.antisymm (f z) w) ∙ turned_back (R w (f z)) h) m below_next

        by : (a : Ordering) → R (f z) (f y) ≡ a → with_elements R (with_element R m (f z)) (map f zs) ≡ front ++ map f (cond (is_eq (R (f z) (f y))) (dedup_from same y zs) (y ∷ dedup_from same z zs))
        by Less e = let h = not_lower in absurd cc
        by Equal e =
            let again : with_element R m (f z) ≡ m = last_again o m (f z) s (last_of front (f y) ∙ ap Some (sym (exact (f z) (f y) e))) in
            rw (again, e) gone
        by Greater e =
            let differs : slice_get m (length m - 1) ≡ Some (f z) → ⊥ = λ last. let same_one : Some (f y) ≡ Some (f z) = sym (last_of front (f y)) ∙ last in let one : f y ≡ f z = cc in let itself = tied_itself o (f z) in let turn : R (f z) (f z) ≡ Greater = subst (λ w. R (f z) w ≡ Greater) one e in absurd cc in
            let next : with_element R m (f z) ≡ m ++ f z ∷ [] = next_last o exact m (f z) s none differs in
            let sorted : IsStrictlySorted R (m ++ f z ∷ []) = subst (IsStrictlySorted R) next (more_sorted o m (f z) s) in
            rw (next, e) (kept sorted (all_behind (λ w. is_gt (R w (f z)) ≡ false) m (f z) below_next (ap is_gt (tied_itself o (f z)))) ∙ append_assoc front (f y ∷ []) (map f (dedup_from same z zs)))

  deduped : (front : List A) (y : X) (zs : List X) → IsStrictlySorted R (front ++ f y ∷ []) → AllByRecursion (λ w. is_gt (R w (f y)) ≡ false) (front ++ f y ∷ []) → IsSortedBy lower (y ∷ zs) → with_elements R (front ++ f y ∷ []) (map f zs) ≡ front ++ map f (dedup_from same y zs)
  deduped front y [] s below up = refl
  deduped front y (z ∷ zs) s below up =
      turn front y z zs s below (up 0 y (omega arith) (omega arith))
      (deduped front y zs s below (second_gone y z zs up))
      (λ sorted later. deduped (front ++ f y ∷ []) z zs sorted later (λ k d low high. let h = simp unary_clauses at (up (suc k) d (omega arith) (omega (arith, high))) in simp unary_clauses h))

  pub dedup_gathered : (zs : List X) → IsSortedBy lower zs → map f (dedup same zs) ≡ with_elements R [] (map f zs)
  dedup_gathered [] up = refl
  dedup_gathered (z ∷ zs) up = sym (deduped [] z zs (cons_sorted o (f z) [] tt (λ i j d lt in_range. absurd (omega (arith, in_range)))) (ap is_gt (tied_itself o (f z)), tt) up)

-- those of a list, from the list that a sort made of it
pub from_sorted : {X A : Type 0} {R : A → A → Ordering} → IsTotalOrder R → CmpEqualImpliesEq R → (f : X → A) (xs ys zs : List X) (m : List A) → IsPermutation xs ys → zs ≡ ys → m ≡ with_elements R [] (map f zs) → m ≡ with_elements R [] (map f xs)
from_sorted {R = R} o exact f xs ys zs m p e is = is ∙ (ap (λ l. with_elements R [] (map f l)) e ∙ gathered_same o exact (map f xs) (map f ys) (IsPermutation-map f xs ys p))

-- what holds of each element
pub gathered_all : {A : Type 0} (R : A → A → Ordering) (P : A → Type 0) (ps : List A) → All P ps → All P (with_elements R [] ps)
gathered_all R P ps all k d lt = all_at P (with_elements R [] ps) k d (every_elements R P ps [] tt (every_from P ps (λ y c. subst P c.2 (all c.0 y c.1)))) lt
