-- Storages and streams as they were added, and the tree that they are.
use Rattle.std.specs.Prelude.{◌≡◌, ℕ, ◌+◌, ◌-◌, ◌<◌, ◌≤◌, List, [], ◌∷◌, ◌++◌, length, get_or, slice_set}
use Rattle.std.specs.List.{AllByRecursion}
use Rattle.carrier_model.specs.FileTrees as trees
use Rattle.carrier_model.specs.FileTrees.{FileTree}

-- a stream; or a storage, which has a class of 16 bytes and a number
pub data Child : Type 0 where
  stream : (name bytes : List ℕ) → Child
  storage : (name class : List ℕ) → (number : ℕ) → Child

abbrev pub name_of : Child → List ℕ
name_of (stream name bytes) = name
name_of (storage name class number) = name

-- a stream without a name and without bytes
abbrev pub nothing : Child
nothing = stream [] []

-- the children of each storage by its number, in the order of adding; the root has the number 0
pub record Listed : Type 0 where
  pub root_class : List ℕ
  pub storages : List (List Child)

abbrev pub children_at : List (List Child) → ℕ → List Child
children_at storages k = get_or storages k []

-- children more in a storage, and one more
abbrev pub with_children : List (List Child) → ℕ → List Child → List (List Child)
with_children storages parent more = slice_set storages parent (children_at storages parent ++ more)

abbrev pub with_child : List (List Child) → ℕ → Child → List (List Child)
with_child storages parent child = with_children storages parent (child ∷ [])

-- ---- the tree

-- children, where each number stands for a tree
abbrev pub built : (ℕ → FileTree) → List Child → FileTree
built tree [] = trees.no_file
built tree (stream name bytes ∷ others) = trees.stream name bytes (built tree others)
built tree (storage name class number ∷ others) = trees.storage name class (tree number) (built tree others)

abbrev pub tree_at : List FileTree → ℕ → FileTree
tree_at built_trees k = get_or built_trees k trees.no_file

-- what is in each storage, where the first one has the number n; a storage has a greater number than its parent
abbrev pub trees_from : ℕ → List (List Child) → List FileTree
trees_from n [] = []
trees_from n (children ∷ later) = built (λ k. tree_at (trees_from (n + 1) later) (k - (n + 1))) children ∷ trees_from (n + 1) later

abbrev pub tree_of : List (List Child) → FileTree
tree_of storages = tree_at (trees_from 0 storages) 0

-- ---- what a list keeps to

-- A child of the storage with this number, of so many: its name has at most 31 units, its number comes later, and its
-- class has 16 bytes.
abbrev pub IsChild : ℕ → ℕ → Child → Type 0
IsChild parent count (stream name bytes) = length name ≤ 31
IsChild parent count (storage name class number) = (length name ≤ 31) × (parent < number) × (number < count) × (length class ≡ 16)

-- from the storage with the number n on
abbrev pub AreSound : ℕ → ℕ → List (List Child) → Type 0
AreSound n count [] = Unit {0}
AreSound n count (children ∷ later) = AllByRecursion (IsChild n count) children × AreSound (n + 1) count later

pub record IsSound (storages : List (List Child)) : Type 0 where
  pub some : 0 < length storages
  pub each : AreSound 0 (length storages) storages
