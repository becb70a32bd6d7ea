-- What is laid out is found again: the statement that the file of a tree of storages and streams holds that tree with its
-- classes, its siblings in the order in which they are written. [MS-CFB 2.6]
use Rattle.carrier_model.specs.FileTrees as trees
use Rattle.std.specs.Prelude.{◌≡◌, ℕ, ◌+◌, ◌<◌, ◌≤◌, ◌^◌, List, length, IsTrue}
use Rattle.carrier_model.specs.FileTrees.{FileTree, sorted, file_names, IsFileName}
use Rattle.carrier_model.specs.Files.{Files}
use Rattle.carrier_model.specs.Holds.{AreApart, FileHolds}
use Rattle.carrier_model.specs.Layout.{layout}
use Rattle.carrier_model.specs.Sectors.{is_size}
use Rattle.carrier_model.specs.Stores.{bare}
use Rattle.carrier_model.specs.Bytes.{MOST_BYTES}

-- ---- what may be written

-- Children at a depth: their names fit, no storage has a name twice, and none is too deep.
abbrev pub MayBeWrittenAt : ℕ → FileTree → Type 0
MayBeWrittenAt depth trees.no_file = Unit {0}
MayBeWrittenAt depth (trees.stream name bytes others) = IsFileName name × (length bytes < 2 ^ 28) × MayBeWrittenAt depth others
MayBeWrittenAt depth (trees.storage name class inside others) =
    IsFileName name × (length class ≡ 16) × (depth ≤ 100) × AreApart (file_names inside)
    × MayBeWrittenAt (depth + 1) inside × MayBeWrittenAt depth others

abbrev pub MayBeWritten : FileTree → Type 0
MayBeWritten files = AreApart (file_names files) × MayBeWrittenAt 1 files

-- ---- what is found

-- the file holds files, and they are those that were laid out
pub record HoldsLaidOut (z : ℕ) (class : List ℕ) (files : FileTree) : Type 0 where
  pub found : Files
  pub holds : FileHolds (layout z class files) found
  pub root : found.class ≡ class
  pub same : bare found.children ≡ sorted files

-- The statement.
abbrev pub LayoutsAreFound : Type 0
LayoutsAreFound = (z : ℕ) (class : List ℕ) (files : FileTree) → IsTrue (is_size z) → length class ≡ 16 → MayBeWritten files → length (layout z class files) ≤ MOST_BYTES → HoldsLaidOut z class files

-- no stream has more bytes than a .msg file may have
abbrev pub StreamsFit : FileTree → Type 0
StreamsFit trees.no_file = Unit {0}
StreamsFit (trees.stream name bytes others) = (length bytes < 2 ^ 28) × StreamsFit others
StreamsFit (trees.storage name class inside others) = StreamsFit inside × StreamsFit others
