-- The compound file of the storages and streams that a message without properties has, and the same with some bytes
-- changed. [MS-OXMSG 2.2]
use Rattle.std.specs.Prelude.{ℕ, ◌+◌, List, [], ◌∷◌, ◌++◌, length, replicate, take, drop, codes, Result}
use Rattle.carrier_model.specs.FileTrees.{FileTree, no_file, stream, storage, streams_from, NO_CLASS}
use Rattle.carrier_model.specs.Files.{Files, open_file}
use Rattle.carrier_model.specs.Layout.{layout, MESSAGE_CLASS}
use Rattle.carrier_model.specs.Stores.{PROPERTIES}
use Rattle.carrier_model.specs.Trail.{Fault}

-- a name map without names, whose three streams are empty, and a property stream that is a head alone
abbrev pub smallest_files : FileTree
smallest_files =
    storage (codes "__nameid_version1.0") NO_CLASS
    (streams_from ((codes "__substg1.0_00020102", []) ∷ (codes "__substg1.0_00030102", []) ∷ (codes "__substg1.0_00040102", []) ∷ []))
    (stream PROPERTIES (replicate 32 0) no_file)

abbrev pub smallest : List ℕ
smallest = layout 512 MESSAGE_CLASS smallest_files

-- these bytes at a place
abbrev pub changed : ℕ → List ℕ → List ℕ
changed at bytes = take at smallest ++ (bytes ++ drop (at + length bytes) smallest)

abbrev pub changed_opens : ℕ → List ℕ → Result Files Fault
changed_opens at bytes = open_file (changed at bytes)
