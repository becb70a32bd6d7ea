-- The trees of a sound list of storages.
use Rattle.std.proofs.Common.{◌≡◌, ℕ, zero, suc, ◌+◌, ◌-◌, ◌<◌, true, false, List, [], ◌∷◌, length, map, refl, sym, ap, subst, ◌∙◌, arith}
use Rattle.std.specs.Prelude.{cond}
use Rattle.std.specs.List.{AllByRecursion}
use Rattle.std.specs.Ordering.{is_lt}
use Rattle.std.specs.declared.cmp.Ordering.{Ordering}
use Rattle.std.specs.declared.cmp.Ordering.TheVariants.{Less, Equal, Greater}
use Rattle.carrier_model.specs.FileTrees as trees
use Rattle.carrier_model.specs.FileTrees.{FileTree, sibling_cmp, with_stream, with_storage, sorted}
use Rattle.carrier_model.specs.Sorted.{choose}
use Rattle.cfb_list.specs.Listed.{Child, stream, storage, children_at, built, tree_at, trees_from, tree_of, IsChild, AreSound, IsSound}
use Rattle.cfb_list.specs.Sorting.{placed, comes_before, siblings_in_order}
use Rattle.cfb_list.specs.Trees.{inside}

-- ---- what a storage's tree is made of

-- a storage's number lies behind its parent's, and there are more
abbrev pub IsLater : ℕ → ℕ → Child → Type 0
IsLater parent count (stream name bytes) = Unit {0}
IsLater parent count (storage name class number) = (parent < number) × (number < count)

abbrev pub AreLater : ℕ → ℕ → List (List Child) → Type 0
AreLater n count [] = Unit {0}
AreLater n count (children ∷ others) = AllByRecursion (IsLater n count) children × AreLater (n + 1) count others

later_children : (n count : ℕ) (cs : List Child) → AllByRecursion (IsChild n count) cs → AllByRecursion (IsLater n count) cs
later_children n count [] all = tt
later_children n count (stream name bytes ∷ cs) all = (tt, later_children n count cs all.1)
later_children n count (storage name class number ∷ cs) all = ((all.0.1, all.0.2), later_children n count cs all.1)

later_storages : (n count : ℕ) (storages : List (List Child)) → AreSound n count storages → AreLater n count storages
later_storages n count [] a = tt
later_storages n count (s ∷ ss) a = (later_children n count s a.0, later_storages (n + 1) count ss a.1)

-- children whose numbers stand for the same trees
built_alike : (f g : ℕ → FileTree) (n count : ℕ) (cs : List Child) → ((k : ℕ) → n < k → k < count → f k ≡ g k) → AllByRecursion (IsLater n count) cs → built f cs ≡ built g cs
built_alike f g n count [] h all = refl
built_alike f g n count (stream name bytes ∷ cs) h all = ap (trees.stream name bytes) (built_alike f g n count cs h all.1)
built_alike f g n count (storage name class number ∷ cs) h all =
    ap (λ (t : FileTree). trees.storage name class t (built f cs)) (h number all.0.0 all.0.1)
    ∙ ap (trees.storage name class (g number)) (built_alike f g n count cs h all.1)

past : (t : FileTree) (ts : List FileTree) (n k : ℕ) → n < k → tree_at ts (k - (n + 1)) ≡ tree_at (t ∷ ts) (k - n)
past t ts n k lt = let e : k - n ≡ suc (k - (n + 1)) = omega (arith, lt) in rw e refl

children_later : (n count i : ℕ) (storages : List (List Child)) → AreLater n count storages → i < length storages → AllByRecursion (IsLater (n + i) count) (children_at storages i)
children_later n count i [] a lt = absurd (omega (arith, lt))
children_later n count zero (s ∷ ss) a lt = let e : n + 0 ≡ n = omega arith in rw e a.0
children_later n count (suc i) (s ∷ ss) a lt = let e : n + suc i ≡ n + 1 + i = omega arith in rw e (children_later (n + 1) count i ss a.1 (omega (arith, lt)))

children_sound : (n count i : ℕ) (storages : List (List Child)) → AreSound n count storages → i < length storages → AllByRecursion (IsChild (n + i) count) (children_at storages i)
children_sound n count i [] a lt = absurd (omega (arith, lt))
children_sound n count zero (s ∷ ss) a lt = let e : n + 0 ≡ n = omega arith in rw e a.0
children_sound n count (suc i) (s ∷ ss) a lt = let e : n + suc i ≡ n + 1 + i = omega arith in rw e (children_sound (n + 1) count i ss a.1 (omega (arith, lt)))

unfolds : (n count i : ℕ) (storages : List (List Child)) → AreLater n count storages → i < length storages → tree_at (trees_from n storages) i ≡ built (λ k. tree_at (trees_from n storages) (k - n)) (children_at storages i)
unfolds n count i [] a lt = absurd (omega (arith, lt))
unfolds n count zero (s ∷ ss) a lt =
    built_alike (λ k. tree_at (trees_from (n + 1) ss) (k - (n + 1))) (λ k. tree_at (trees_from n (s ∷ ss)) (k - n)) n count s (λ k low high. past _ (trees_from (n + 1) ss) n k low) a.0
unfolds n count (suc i) (s ∷ ss) a lt =
    unfolds (n + 1) count i ss a.1 (omega (arith, lt))
    ∙ built_alike (λ k. tree_at (trees_from (n + 1) ss) (k - (n + 1))) (λ k. tree_at (trees_from n (s ∷ ss)) (k - n)) (n + 1 + i) count (children_at ss i) (λ k low high. past _ (trees_from (n + 1) ss) n k (omega (arith, low))) (children_later (n + 1) count i ss a.1 (omega (arith, lt)))

pub inside_later : (storages : List (List Child)) (k : ℕ) → AreLater 0 (length storages) storages → k < length storages → inside storages k ≡ built (inside storages) (children_at storages k)
inside_later storages k a lt = unfolds 0 (length storages) k storages a lt ∙ built_alike (λ j. tree_at (trees_from 0 storages) (j - 0)) (inside storages) k (length storages) (children_at storages k) (λ j low high. let e : j - 0 ≡ j = omega arith in ap (tree_at (trees_from 0 storages)) e) (subst (λ (m : ℕ). AllByRecursion (IsLater m (length storages)) (children_at storages k)) (omega arith) (children_later 0 (length storages) k storages a lt))

-- a storage's tree is its children, each number for the tree of its storage
pub inside_is : (storages : List (List Child)) (k : ℕ) → IsSound storages → k < length storages → inside storages k ≡ built (inside storages) (children_at storages k)
inside_is storages k s lt = inside_later storages k (later_storages 0 (length storages) storages s.each) lt

pub children_of_sound : (storages : List (List Child)) (k : ℕ) → IsSound storages → k < length storages → AllByRecursion (IsChild k (length storages)) (children_at storages k)
children_of_sound storages k s lt = subst (λ (m : ℕ). AllByRecursion (IsChild m (length storages)) (children_at storages k)) (omega arith) (children_sound 0 (length storages) k storages s.each lt)

-- ---- in order

chosen_is : (o : Ordering) (a b : FileTree) → choose o a b b ≡ cond (is_lt o) a b
chosen_is Less a b = refl
chosen_is Equal a b = refl
chosen_is Greater a b = refl

stream_placed : (f : ℕ → FileTree) (name bytes : List ℕ) (cs : List Child) → with_stream name bytes (built f cs) ≡ built f (placed comes_before (stream name bytes) cs)
stream_placed f name bytes [] = refl
stream_placed f name bytes (stream other x ∷ cs) =
    chosen_is (sibling_cmp other name) (trees.stream other x (with_stream name bytes (built f cs))) (trees.stream name bytes (trees.stream other x (built f cs)))
    ∙ ap (λ (t : FileTree). cond (is_lt (sibling_cmp other name)) (trees.stream other x t) (trees.stream name bytes (trees.stream other x (built f cs)))) (stream_placed f name bytes cs)
    ∙ (elim (is_lt (sibling_cmp other name)) as (λ b. cond b (trees.stream other x (built f (placed comes_before (stream name bytes) cs))) (trees.stream name bytes (trees.stream other x (built f cs))) ≡ built f (cond b (stream other x ∷ placed comes_before (stream name bytes) cs) (stream name bytes ∷ stream other x ∷ cs))) [ true ↦ refl | false ↦ refl ])
stream_placed f name bytes (storage other class number ∷ cs) =
    chosen_is (sibling_cmp other name) (trees.storage other class (f number) (with_stream name bytes (built f cs))) (trees.stream name bytes (trees.storage other class (f number) (built f cs)))
    ∙ ap (λ (t : FileTree). cond (is_lt (sibling_cmp other name)) (trees.storage other class (f number) t) (trees.stream name bytes (trees.storage other class (f number) (built f cs)))) (stream_placed f name bytes cs)
    ∙ (elim (is_lt (sibling_cmp other name)) as (λ b. cond b (trees.storage other class (f number) (built f (placed comes_before (stream name bytes) cs))) (trees.stream name bytes (trees.storage other class (f number) (built f cs))) ≡ built f (cond b (storage other class number ∷ placed comes_before (stream name bytes) cs) (stream name bytes ∷ storage other class number ∷ cs))) [ true ↦ refl | false ↦ refl ])

storage_placed : (f : ℕ → FileTree) (name class : List ℕ) (number : ℕ) (cs : List Child) → with_storage name class (f number) (built f cs) ≡ built f (placed comes_before (storage name class number) cs)
storage_placed f name class number [] = refl
storage_placed f name class number (stream other x ∷ cs) =
    chosen_is (sibling_cmp other name) (trees.stream other x (with_storage name class (f number) (built f cs))) (trees.storage name class (f number) (trees.stream other x (built f cs)))
    ∙ ap (λ (t : FileTree). cond (is_lt (sibling_cmp other name)) (trees.stream other x t) (trees.storage name class (f number) (trees.stream other x (built f cs)))) (storage_placed f name class number cs)
    ∙ (elim (is_lt (sibling_cmp other name)) as (λ b. cond b (trees.stream other x (built f (placed comes_before (storage name class number) cs))) (trees.storage name class (f number) (trees.stream other x (built f cs))) ≡ built f (cond b (stream other x ∷ placed comes_before (storage name class number) cs) (storage name class number ∷ stream other x ∷ cs))) [ true ↦ refl | false ↦ refl ])
storage_placed f name class number (storage other kind k ∷ cs) =
    chosen_is (sibling_cmp other name) (trees.storage other kind (f k) (with_storage name class (f number) (built f cs))) (trees.storage name class (f number) (trees.storage other kind (f k) (built f cs)))
    ∙ ap (λ (t : FileTree). cond (is_lt (sibling_cmp other name)) (trees.storage other kind (f k) t) (trees.storage name class (f number) (trees.storage other kind (f k) (built f cs)))) (storage_placed f name class number cs)
    ∙ (elim (is_lt (sibling_cmp other name)) as (λ b. cond b (trees.storage other kind (f k) (built f (placed comes_before (storage name class number) cs))) (trees.storage name class (f number) (trees.storage other kind (f k) (built f cs))) ≡ built f (cond b (storage other kind k ∷ placed comes_before (storage name class number) cs) (storage name class number ∷ storage other kind k ∷ cs))) [ true ↦ refl | false ↦ refl ])

built_sorted : (f : ℕ → FileTree) (cs : List Child) → sorted (built f cs) ≡ built (λ k. sorted (f k)) (siblings_in_order cs)
built_sorted f [] = refl
built_sorted f (stream name bytes ∷ cs) = ap (with_stream name bytes) (built_sorted f cs) ∙ stream_placed (λ k. sorted (f k)) name bytes (siblings_in_order cs)
built_sorted f (storage name class number ∷ cs) = ap (with_storage name class (sorted (f number))) (built_sorted f cs) ∙ storage_placed (λ k. sorted (f k)) name class number (siblings_in_order cs)

pub sorted_at : (ts : List FileTree) (k : ℕ) → sorted (tree_at ts k) ≡ tree_at (map sorted ts) k
sorted_at [] k = refl
sorted_at (t ∷ ts) zero = refl
sorted_at (t ∷ ts) (suc k) = sorted_at ts k

same_built : (f g : ℕ → FileTree) (cs : List Child) → ((k : ℕ) → f k ≡ g k) → built f cs ≡ built g cs
same_built f g [] h = refl
same_built f g (stream name bytes ∷ cs) h = ap (trees.stream name bytes) (same_built f g cs h)
same_built f g (storage name class number ∷ cs) h = ap (λ (t : FileTree). trees.storage name class t (built f cs)) (h number) ∙ ap (trees.storage name class (g number)) (same_built f g cs h)

pub trees_sorted : (n : ℕ) (storages : List (List Child)) → trees_from n (map siblings_in_order storages) ≡ map sorted (trees_from n storages)
trees_sorted n [] = refl
trees_sorted n (s ∷ ss) =
    let later = trees_sorted (n + 1) ss in
    let first : built (λ k. tree_at (trees_from (n + 1) (map siblings_in_order ss)) (k - (n + 1))) (siblings_in_order s) ≡ sorted (built (λ k. tree_at (trees_from (n + 1) ss) (k - (n + 1))) s) =
    same_built (λ k. tree_at (trees_from (n + 1) (map siblings_in_order ss)) (k - (n + 1))) (λ k. sorted (tree_at (trees_from (n + 1) ss) (k - (n + 1)))) (siblings_in_order s) (λ k. ap (λ (ts : List FileTree). tree_at ts (k - (n + 1))) later ∙ sym (sorted_at (trees_from (n + 1) ss) (k - (n + 1))))
    ∙ sym (built_sorted (λ k. tree_at (trees_from (n + 1) ss) (k - (n + 1))) s)
    in
    ap (λ (t : FileTree). t ∷ trees_from (n + 1) (map siblings_in_order ss)) first ∙ ap (λ (ts : List FileTree). sorted (built (λ k. tree_at (trees_from (n + 1) ss) (k - (n + 1))) s) ∷ ts) later

-- the tree of sorted storages is the sorted tree
pub tree_sorted : (storages : List (List Child)) → tree_of (map siblings_in_order storages) ≡ sorted (tree_of storages)
tree_sorted storages = ap (λ (ts : List FileTree). tree_at ts 0) (trees_sorted 0 storages) ∙ sym (sorted_at (trees_from 0 storages) 0)
