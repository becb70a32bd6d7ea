-- A list of storages to which whole trees are added.
use Rattle.std.specs.Prelude.{◌≡◌, ℕ, suc, ◌+◌, ◌≤◌, List, [], ◌∷◌, ◌++◌, length}
use Rattle.carrier_model.specs.FileTrees as trees
use Rattle.carrier_model.specs.FileTrees.{FileTree}
use Rattle.cfb_list.specs.Listed.{Child, stream, storage, with_child}

-- the files of a tree behind what is in a storage, each storage followed by what is in it
abbrev pub grown : List (List Child) → ℕ → FileTree → List (List Child)
grown storages parent trees.no_file = storages
grown storages parent (trees.stream name bytes others) = grown (with_child storages parent (stream name bytes)) parent others
grown storages parent (trees.storage name class inside others) =
    grown (grown (with_child storages parent (storage name class (length storages)) ++ [] ∷ []) (length storages) inside) parent others

-- all storages, at every depth
abbrev pub storages_in : FileTree → ℕ
storages_in trees.no_file = 0
storages_in (trees.stream name bytes others) = storages_in others
storages_in (trees.storage name class inside others) = suc (storages_in inside + storages_in others)

-- every name has at most 31 units, and every class 16 bytes
abbrev pub MayBeAdded : FileTree → Type 0
MayBeAdded trees.no_file = Unit {0}
MayBeAdded (trees.stream name bytes others) = (length name ≤ 31) × MayBeAdded others
MayBeAdded (trees.storage name class inside others) = (length name ≤ 31) × (length class ≡ 16) × MayBeAdded inside × MayBeAdded others
