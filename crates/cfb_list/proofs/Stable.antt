-- A stable sort has one result.
use Rattle.std.proofs.Common.{◌≡◌, ℕ, suc, ◌<◌, Bool, true, false, List, [], ◌∷◌, length, get_or, map, refl, sym, ap, subst, ◌∙◌, add-one, arith}
use Rattle.std.specs.Prelude.{cond, not, ◌&&◌, filter}
use Rattle.std.specs.Cmp.{IsStrictWeakOrder}
use Rattle.std.specs.List.{AllByRecursion}
use Rattle.std.specs.List.Sorted.{IsSortedBy, IsStableBy, ties}
use Rattle.std.proofs.lemmas.List.Sorted.{sorted_far}
use Rattle.cfb_list.specs.Sorting.{placed, in_order}

head_is : {X : Type 0} (x y : X) (xs ys : List X) → x ∷ xs ≡ y ∷ ys → x ≡ y
head_is x y xs ys e = ap (λ (l : List _). get_or l 0 x) e

tail_is : {X : Type 0} (x y : X) (xs ys : List X) → x ∷ xs ≡ y ∷ ys → xs ≡ ys
tail_is x y xs ys e = ap tail e
  where
    tail : {Y : Type 0} → List Y → List Y
    tail [] = []
    tail (z ∷ zs) = zs

module _ {X : Type 0} (lt : X → X → Bool) (o : IsStrictWeakOrder lt) where
  irreflexive : (x : X) → lt x x ≡ false
  irreflexive x = by (lt x x) refl
    where
      by : (b : Bool) → lt x x ≡ b → lt x x ≡ false
      by true e = o.one_way x x e
      by false e = e

  abbrev Up : List X → Type 0
  Up [] = Unit {0}
  Up (y ∷ ys) = AllByRecursion (λ z. lt z y ≡ false) ys × Up ys

  each_at : (y : X) (ys : List X) → ((k : ℕ) (d : X) → k < length ys → lt (get_or ys k d) y ≡ false) → AllByRecursion (λ z. lt z y ≡ false) ys
  each_at y [] h = tt
  each_at y (z ∷ zs) h = (h 0 z (omega arith), each_at y zs (λ k d p. h (suc k) d (omega (arith, p))))

  up_from : (ys : List X) → IsSortedBy lt ys → Up ys
  up_from [] h = tt
  up_from (y ∷ ys) h = (
    each_at y ys (λ k d p. sorted_far lt o (y ∷ ys) h 0 (suc k) d (omega arith) (omega (arith, p))),
    up_from ys (λ k d low high. subst (λ (m : ℕ). lt (get_or ys m d) (get_or ys k d) ≡ false) (sym (add-one k)) (subst (λ (m : ℕ). lt (get_or (y ∷ ys) m d) (get_or ys k d) ≡ false) (add-one (suc k)) (h (suc k) d (omega arith) (omega (arith, high))))),
  )

  -- what stands first among those that pass is one of them
  first_is : (P : X → Type 0) (p : X → Bool) (z : X) (ys rest : List X) → AllByRecursion P ys → filter p ys ≡ z ∷ rest → P z
  first_is P p z [] rest all e = absurd cc
  first_is P p z (y ∷ ys) rest all e = by (first_is P p z ys rest all.1) (p y) refl
    where
      by : (filter p ys ≡ z ∷ rest → P z) → (b : Bool) → p y ≡ b → P z
      by later true h = subst P (head_is y z (filter p ys) rest (subst (λ (b : Bool). cond b (y ∷ filter p ys) (filter p ys) ≡ z ∷ rest) h e)) all.0
      by later false h = later (subst (λ (b : Bool). cond b (y ∷ filter p ys) (filter p ys) ≡ z ∷ rest) h e)

  tie_with : (x y : X) → lt x y ≡ false → lt y x ≡ false → ties lt x y ≡ true
  tie_with x y e f = ap (λ (b : Bool). not b && not (lt y x)) e ∙ ap (λ (b : Bool). not false && not b) f

  -- sorted lists in which those that tie stand alike
  pub one_result : (ys zs : List X) → Up ys → Up zs → ((x : X) → filter (ties lt x) ys ≡ filter (ties lt x) zs) → ys ≡ zs
  one_result [] [] u v h = refl
  one_result [] (z ∷ zs) u v h = let e : ties lt z z ≡ true = tie_with z z (irreflexive z) (irreflexive z) in let n = h z ∙ ap (λ (b : Bool). cond b (z ∷ filter (ties lt z) zs) (filter (ties lt z) zs)) e in absurd cc
  one_result (y ∷ ys) [] u v h = let e : ties lt y y ≡ true = tie_with y y (irreflexive y) (irreflexive y) in let n = sym (h y) ∙ ap (λ (b : Bool). cond b (y ∷ filter (ties lt y) ys) (filter (ties lt y) ys)) e in absurd cc
  one_result (y ∷ ys) (z ∷ zs) u v h =
      let own_z : filter (ties lt z) (z ∷ zs) ≡ z ∷ filter (ties lt z) zs = ap (λ (b : Bool). cond b (z ∷ filter (ties lt z) zs) (filter (ties lt z) zs)) (tie_with z z (irreflexive z) (irreflexive z)) in
      let own_y : filter (ties lt y) (y ∷ ys) ≡ y ∷ filter (ties lt y) ys = ap (λ (b : Bool). cond b (y ∷ filter (ties lt y) ys) (filter (ties lt y) ys)) (tie_with y y (irreflexive y) (irreflexive y)) in
      let z_up : lt z y ≡ false = first_is (λ w. lt w y ≡ false) (ties lt z) z (y ∷ ys) (filter (ties lt z) zs) (irreflexive y, u.0) (h z ∙ own_z) in
      let y_up : lt y z ≡ false = first_is (λ w. lt w z ≡ false) (ties lt y) y (z ∷ zs) (filter (ties lt y) ys) (irreflexive z, v.0) (sym (h y) ∙ own_y) in
      let both : y ∷ filter (ties lt y) ys ≡ z ∷ filter (ties lt y) zs = sym own_y ∙ h y ∙ ap (λ (b : Bool). cond b (z ∷ filter (ties lt y) zs) (filter (ties lt y) zs)) (tie_with y z y_up z_up) in
      let same : y ≡ z = head_is y z (filter (ties lt y) ys) (filter (ties lt y) zs) both in
      ap (λ (w : X). w ∷ ys) same ∙ ap (λ (l : List X). z ∷ l) (one_result ys zs u.1 v.1 (rest same))
    where
      rest : y ≡ z → (x : X) → filter (ties lt x) ys ≡ filter (ties lt x) zs
      rest same x = by (ties lt x z) refl
        where
          by : (b : Bool) → ties lt x z ≡ b → filter (ties lt x) ys ≡ filter (ties lt x) zs
          by true e = tail_is y z (filter (ties lt x) ys) (filter (ties lt x) zs) (sym (ap (λ (b : Bool). cond b (y ∷ filter (ties lt x) ys) (filter (ties lt x) ys)) (ap (ties lt x) same ∙ e)) ∙ h x ∙ ap (λ (b : Bool). cond b (z ∷ filter (ties lt x) zs) (filter (ties lt x) zs)) e)
          by false e = sym (ap (λ (b : Bool). cond b (y ∷ filter (ties lt x) ys) (filter (ties lt x) ys)) (ap (ties lt x) same ∙ e)) ∙ h x ∙ ap (λ (b : Bool). cond b (z ∷ filter (ties lt x) zs) (filter (ties lt x) zs)) e

  all_placed : (P : X → Type 0) (x : X) (ys : List X) → P x → AllByRecursion P ys → AllByRecursion P (placed lt x ys)
  all_placed P x [] p all = (p, tt)
  all_placed P x (y ∷ ys) p all = elim (lt y x) as (λ b. AllByRecursion P (cond b (y ∷ placed lt x ys) (x ∷ y ∷ ys))) [ true ↦ (all.0, all_placed P x ys p all.1) | false ↦ (p, all) ]

  all_chained : (x y : X) (ys : List X) → lt y x ≡ false → AllByRecursion (λ z. lt z y ≡ false) ys → AllByRecursion (λ z. lt z x ≡ false) ys
  all_chained x y [] e all = tt
  all_chained x y (z ∷ zs) e all = (o.chain z y x all.0 e, all_chained x y zs e all.1)

  up_placed : (x : X) (ys : List X) → Up ys → Up (placed lt x ys)
  up_placed x [] u = (tt, tt)
  up_placed x (y ∷ ys) u = by (up_placed x ys u.1) (lt y x) refl
    where
      by : Up (placed lt x ys) → (b : Bool) → lt y x ≡ b → Up (cond (lt y x) (y ∷ placed lt x ys) (x ∷ y ∷ ys))
      by later true e = subst (λ (b : Bool). Up (cond b (y ∷ placed lt x ys) (x ∷ y ∷ ys))) (sym e) (all_placed (λ z. lt z y ≡ false) x ys (o.one_way y x e) u.0, later)
      by later false e = subst (λ (b : Bool). Up (cond b (y ∷ placed lt x ys) (x ∷ y ∷ ys))) (sym e) ((e, all_chained x y ys e u.0), u)

  up_order : (xs : List X) → Up (in_order lt xs)
  up_order [] = tt
  up_order (x ∷ xs) = up_placed x (in_order lt xs) (up_order xs)

  parts_of : (a b : Bool) → (not a && not b) ≡ true → (a ≡ false) × (b ≡ false)
  parts_of true b e = absurd cc
  parts_of false true e = absurd cc
  parts_of false false e = (refl, refl)

  apart : (w x y : X) → lt y x ≡ true → ties lt w y ≡ true → ties lt w x ≡ true → ⊥
  apart w x y e f g =
      let a = parts_of (lt w y) (lt y w) f in
      let b = parts_of (lt w x) (lt x w) g in
      let n = o.chain y w x a.1 b.0 in
      let no : true ≡ false = sym e ∙ n in cc

  placed_alike : (w x : X) (ys : List X) → filter (ties lt w) (placed lt x ys) ≡ filter (ties lt w) (x ∷ ys)
  placed_alike w x [] = refl
  placed_alike w x (y ∷ ys) = by (placed_alike w x ys) (lt y x) refl
    where
      front : lt y x ≡ true → (a b : Bool) → ties lt w y ≡ a → ties lt w x ≡ b → cond a (y ∷ cond b (x ∷ filter (ties lt w) ys) (filter (ties lt w) ys)) (cond b (x ∷ filter (ties lt w) ys) (filter (ties lt w) ys)) ≡ cond b (x ∷ cond a (y ∷ filter (ties lt w) ys) (filter (ties lt w) ys)) (cond a (y ∷ filter (ties lt w) ys) (filter (ties lt w) ys))
      front e true true f g = absurd (apart w x y e f g)
      front e true false f g = refl
      front e false true f g = refl
      front e false false f g = refl

      by : filter (ties lt w) (placed lt x ys) ≡ filter (ties lt w) (x ∷ ys) → (b : Bool) → lt y x ≡ b → filter (ties lt w) (cond (lt y x) (y ∷ placed lt x ys) (x ∷ y ∷ ys)) ≡ filter (ties lt w) (x ∷ y ∷ ys)
      by later true e =
          ap (λ (b : Bool). filter (ties lt w) (cond b (y ∷ placed lt x ys) (x ∷ y ∷ ys))) e
          ∙ ap (λ (l : List X). cond (ties lt w y) (y ∷ l) l) later
          ∙ front e (ties lt w y) (ties lt w x) refl refl
      by later false e = ap (λ (b : Bool). filter (ties lt w) (cond b (y ∷ placed lt x ys) (x ∷ y ∷ ys))) e

  order_alike : (w : X) (xs : List X) → filter (ties lt w) (in_order lt xs) ≡ filter (ties lt w) xs
  order_alike w [] = refl
  order_alike w (x ∷ xs) = placed_alike w x (in_order lt xs) ∙ ap (λ (l : List X). cond (ties lt w x) (x ∷ l) l) (order_alike w xs)

  -- what a stable sort makes of a list
  pub stably_sorted : (xs ys : List X) → IsSortedBy lt ys → IsStableBy lt xs ys → ys ≡ in_order lt xs
  stably_sorted xs ys up alike = one_result ys (in_order lt xs) (up_from ys up) (up_order xs) (λ x. alike x ∙ sym (order_alike x xs))

module _ {X Y : Type 0} (lt : X → X → Bool) (below : Y → Y → Bool) (f : X → Y) (same : (x y : X) → lt x y ≡ below (f x) (f y)) where
  map_placed : (x : X) (ys : List X) → map f (placed lt x ys) ≡ placed below (f x) (map f ys)
  map_placed x [] = refl
  map_placed x (y ∷ ys) = by (map_placed x ys) (lt y x) refl
    where
      by : map f (placed lt x ys) ≡ placed below (f x) (map f ys) → (b : Bool) → lt y x ≡ b → map f (cond (lt y x) (y ∷ placed lt x ys) (x ∷ y ∷ ys)) ≡ cond (below (f y) (f x)) (f y ∷ placed below (f x) (map f ys)) (f x ∷ f y ∷ map f ys)
      by later true e = ap (λ (b : Bool). map f (cond b (y ∷ placed lt x ys) (x ∷ y ∷ ys))) e ∙ ap (λ (l : List Y). f y ∷ l) later ∙ sym (ap (λ (b : Bool). cond b (f y ∷ placed below (f x) (map f ys)) (f x ∷ f y ∷ map f ys)) (sym (same y x) ∙ e))
      by later false e = ap (λ (b : Bool). map f (cond b (y ∷ placed lt x ys) (x ∷ y ∷ ys))) e ∙ sym (ap (λ (b : Bool). cond b (f y ∷ placed below (f x) (map f ys)) (f x ∷ f y ∷ map f ys)) (sym (same y x) ∙ e))

  -- elements are sorted as what they stand for
  pub map_order : (xs : List X) → map f (in_order lt xs) ≡ in_order below (map f xs)
  map_order [] = refl
  map_order (x ∷ xs) = map_placed x (in_order lt xs) ∙ ap (placed below (f x)) (map_order xs)
