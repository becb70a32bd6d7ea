-- What a tree of storages and streams needs room for.
use Rattle.std.specs.Prelude.{ℕ, ◌+◌, List, if◌then◌else◌}
use Rattle.carrier_model.specs.FileTrees.{FileTree, no_file, stream, storage}
use Rattle.carrier_model.specs.Layout.{MINI, is_short, is_long, pieces}
use Rattle.cfb_list.specs.Listed.{Child, tree_at, trees_from}

-- what is in the storage with a number
abbrev pub inside : List (List Child) → ℕ → FileTree
inside storages k = tree_at (trees_from 0 storages) k

-- the mini sectors and the sectors of a stream's own
abbrev pub mini_pieces : List ℕ → ℕ
mini_pieces x = if is_short x then pieces MINI x else 0

abbrev pub long_pieces : ℕ → List ℕ → ℕ
long_pieces z x = if is_long x then pieces z x else 0

-- and those of all streams
abbrev pub mini_in : FileTree → ℕ
mini_in no_file = 0
mini_in (stream name bytes others) = mini_pieces bytes + mini_in others
mini_in (storage name class below others) = mini_in below + mini_in others

abbrev pub long_in : ℕ → FileTree → ℕ
long_in z no_file = 0
long_in z (stream name bytes others) = long_pieces z bytes + long_in z others
long_in z (storage name class below others) = long_in z below + long_in z others
