-- A list stays sound where something is added.
use Rattle.std.proofs.Common.{◌≡◌, ℕ, zero, suc, ◌+◌, ◌<◌, ◌≤◌, List, [], ◌∷◌, ◌++◌, Bool, true, false, map, length, take, refl, ap, subst, arith}
use Rattle.std.specs.Prelude.{Some, cond, slice_get}
use Rattle.cfb_list.specs.Sorting.{placed, in_order, comes_before, siblings_in_order}
use Rattle.std.specs.List.{AllByRecursion}
use Rattle.std.proofs.lemmas.List.{length-append, length-set, length-map}
use Rattle.cfb_list.specs.Listed.{Child, stream, storage, children_at, with_child, with_children, IsChild, AreSound, IsSound}

pub each_seen : {X : Type 0} (P : X → Type 0) (xs : List X) (k : ℕ) (x : X) → slice_get xs k ≡ Some x → AllByRecursion P xs → P x
each_seen P [] k x e all = absurd cc
each_seen P (y ∷ ys) zero x e all = let same : y ≡ x = cc in subst P same all.0
each_seen P (y ∷ ys) (suc k) x e all = each_seen P ys k x e all.1

later : (n count more : ℕ) (child : Child) → count ≤ more → IsChild n count child → IsChild n more child
later n count more (stream name bytes) h c = c
later n count more (storage name class number) h c = (c.0, c.1, omega (arith, c.2, h), c.3)

each_later : (n count more : ℕ) (children : List Child) → count ≤ more → AllByRecursion (IsChild n count) children → AllByRecursion (IsChild n more) children
each_later n count more [] h a = tt
each_later n count more (c ∷ cs) h a = (later n count more c h a.0, each_later n count more cs h a.1)

sound_later : (n count more : ℕ) (storages : List (List Child)) → count ≤ more → AreSound n count storages → AreSound n more storages
sound_later n count more [] h a = tt
sound_later n count more (s ∷ ss) h a = (each_later n count more s h a.0, sound_later (n + 1) count more ss h a.1)

sound_empty : (n count : ℕ) (storages : List (List Child)) → AreSound n count storages → AreSound n count (storages ++ [] ∷ [])
sound_empty n count [] a = (tt, tt)
sound_empty n count (s ∷ ss) a = (a.0, sound_empty (n + 1) count ss a.1)

each_both : {X : Type 0} (P : X → Type 0) (xs ys : List X) → AllByRecursion P xs → AllByRecursion P ys → AllByRecursion P (xs ++ ys)
each_both P [] ys h p = p
each_both P (x ∷ xs) ys h p = (h.0, each_both P xs ys h.1 p)

sound_children : (n count k parent : ℕ) (storages : List (List Child)) (more : List Child) → n + k ≡ parent → AllByRecursion (IsChild parent count) more → AreSound n count storages → AreSound n count (with_children storages k more)
sound_children n count k parent [] more e c a = tt
sound_children n count zero parent (s ∷ ss) more e c a = let same : parent ≡ n = omega arith in (each_both (IsChild n count) s more a.0 (subst (λ m. AllByRecursion (IsChild m count) more) same c), a.1)
sound_children n count (suc k) parent (s ∷ ss) more e c a = (a.0, sound_children (n + 1) count k parent ss more (omega (arith, e)) c a.1)

-- children more, and one
pub children_added : (storages : List (List Child)) (parent : ℕ) (more : List Child) → AllByRecursion (IsChild parent (length storages)) more → IsSound storages → IsSound (with_children storages parent more)
children_added storages parent more c s =
    let same : length (with_children storages parent more) ≡ length storages = length-set storages parent (children_at storages parent ++ more) in
    record { some = omega (arith, s.some, same); each = rw same (sound_children 0 (length storages) parent parent storages more (omega arith) c s.each) }

pub child_added : (storages : List (List Child)) (parent : ℕ) (child : Child) → IsChild parent (length storages) child → IsSound storages → IsSound (with_child storages parent child)
child_added storages parent child c s = children_added storages parent (child ∷ []) (c, tt) s

-- one storage more, in which there is nothing
pub storage_added : (storages : List (List Child)) → IsSound storages → IsSound (storages ++ [] ∷ [])
storage_added storages s =
    let more : length (storages ++ [] ∷ []) ≡ length storages + 1 = length-append storages ([] ∷ []) in
    record { some = omega (arith, s.some, more); each = rw more (sound_later 0 (length storages) (length storages + 1) (storages ++ [] ∷ []) (omega arith) (sound_empty 0 (length storages) storages s.each)) }

pub taken_back : {X : Type 0} (xs ys : List X) → take (length xs) (xs ++ ys) ≡ xs
taken_back [] ys = refl
taken_back (x ∷ xs) ys = ap (λ (t : List _). x ∷ t) (taken_back xs ys)

pub child_of_front : (storages : List (List Child)) (parent : ℕ) (child : Child) → parent < length storages → with_child (storages ++ [] ∷ []) parent child ≡ with_child storages parent child ++ [] ∷ []
child_of_front [] parent child h = absurd (omega (arith, h))
child_of_front (s ∷ ss) zero child h = refl
child_of_front (s ∷ ss) (suc parent) child h = ap (λ (t : List (List Child)). s ∷ t) (child_of_front ss parent child (omega (arith, h)))

-- ---- in order

placed_each : {X : Type 0} (lt : X → X → Bool) (P : X → Type 0) (x : X) (ys : List X) → P x → AllByRecursion P ys → AllByRecursion P (placed lt x ys)
placed_each lt P x [] p all = (p, tt)
placed_each lt P x (y ∷ ys) p all = elim (lt y x) as (λ b. AllByRecursion P (cond b (y ∷ placed lt x ys) (x ∷ y ∷ ys))) [ true ↦ (all.0, placed_each lt P x ys p all.1) | false ↦ (p, all) ]

order_each : {X : Type 0} (lt : X → X → Bool) (P : X → Type 0) (xs : List X) → AllByRecursion P xs → AllByRecursion P (in_order lt xs)
order_each lt P [] all = tt
order_each lt P (x ∷ xs) all = placed_each lt P x (in_order lt xs) all.0 (order_each lt P xs all.1)

order_sound : (n count : ℕ) (storages : List (List Child)) → AreSound n count storages → AreSound n count (map siblings_in_order storages)
order_sound n count [] a = tt
order_sound n count (s ∷ ss) a = (order_each comes_before (IsChild n count) s a.0, order_sound (n + 1) count ss a.1)

pub sorted_sound : (storages : List (List Child)) → IsSound storages → IsSound (map siblings_in_order storages)
sorted_sound storages s =
    let same : length (map siblings_in_order storages) ≡ length storages = length-map storages siblings_in_order in
    record { some = omega (arith, s.some, same); each = rw same (order_sound 0 (length storages) storages s.each) }
