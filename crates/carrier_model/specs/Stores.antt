-- The OLE stores that attachments hold: what a store keeps to, and the store that a storage of a compound file is.
-- [MS-CFB 1.3 and 2.6, MS-OXMSG 2.2.2]
use Rattle.std.specs.Prelude.{◌≡◌, ℕ, zero, suc, ◌+◌, ◌≤◌, Bool, false, not, ◌||◌, List, length, Option, Some, None, is_some, Result, Ok, Err, codes}
use Rattle.std.specs.Option.{option_or}
use Rattle.carrier_model.specs.Bytes.{MOST_BYTES}
use Rattle.carrier_model.specs.FileTrees as trees
use Rattle.carrier_model.specs.FileTrees.{FileTree, file_names, IsFileName, storage_depth, sibling_cmp, sorted, Store}
use Rattle.carrier_model.specs.Files.{Children, none, storage, stream, Files, open_file}
use Rattle.carrier_model.specs.Holds.{FileHolds}
use Rattle.carrier_model.specs.Layout.{layout}
use Rattle.carrier_model.specs.Lookups.{same_name, stream_named, size_place_at}
use Rattle.carrier_model.specs.Outcomes.{◌>>=◌, check}
use Rattle.carrier_model.specs.Reasons.{STORE_TOO_DEEP, STORE_IS_MESSAGE}
use Rattle.carrier_model.specs.Sorted.{IsStrictlySorted}
use Rattle.carrier_model.specs.Trail.{Fault}

-- the stream that makes a storage a message
abbrev pub PROPERTIES : List ℕ
PROPERTIES = codes "__properties_version1.0"

-- the most storages that stand one below another in a store
abbrev pub MOST_STORAGES : ℕ
MOST_STORAGES = 32

-- ---- what a store keeps to

-- whether one of these is a stream of the name, ASCII letters in one case
abbrev pub has_stream : FileTree → List ℕ → Bool
has_stream trees.no_file name = false
has_stream (trees.stream other bytes others) name = same_name other name || has_stream others name
has_stream (trees.storage other class inside others) name = has_stream others name

-- Names are short, and stand in the order of siblings, none twice; a class has 16 bytes.
abbrev pub AreInOrder : FileTree → Type 0
AreInOrder files = IsStrictlySorted sibling_cmp (file_names files)

abbrev pub AreMembers : FileTree → Type 0
AreMembers trees.no_file = Unit {0}
AreMembers (trees.stream name bytes others) = IsFileName name × AreMembers others
AreMembers (trees.storage name class inside others) =
    IsFileName name × (length class ≡ 16) × AreInOrder inside × AreMembers inside × AreMembers others

-- a store, which isn't a message
pub record IsStore (s : Store) : Type 0 where
  pub class : length s.class ≡ 16
  pub order : AreInOrder s.members
  pub members : AreMembers s.members
  pub depth : storage_depth s.members ≤ MOST_STORAGES
  pub no_message : has_stream s.members PROPERTIES ≡ false

-- ---- the store of a storage

-- children by their names, classes and bytes alone
abbrev pub bare : Children → FileTree
bare none = trees.no_file
bare (storage tag below rest) = trees.storage tag.name tag.class (bare below) (bare rest)
bare (stream tag x rest) = trees.stream tag.name x.bytes (bare rest)

-- a storage without places, what is in it in the order of siblings
abbrev pub store_of : Files → Store
store_of s = record { class = s.class; members = sorted (bare s.children) }

-- where the entry of the first storage lies below which too many stand; a storage comes before what is in it
abbrev pub deep_place : ℕ → Children → Option ℕ
deep_place most none = None
deep_place most (stream tag x rest) = deep_place most rest
deep_place zero (storage tag below rest) = Some tag.place
deep_place (suc most) (storage tag below rest) = option_or (deep_place most below) (deep_place (suc most) rest)

-- the type of an entry is told at fault
abbrev pub shallow : Option ℕ → Result (Unit {0}) Fault
shallow None = Ok tt
shallow (Some place) = Err (STORE_TOO_DEEP, place + 66)

unfoldable pub store_in : Files → Result Store Fault
store_in s = do
  fits ← shallow (deep_place MOST_STORAGES s.children)
  Ok (store_of s)

-- the same as a relation
pub record StoreMeans (s : Files) (x : Store) : Type 0 where
  pub is : x ≡ store_of s
  pub depth : storage_depth x.members ≤ MOST_STORAGES

-- ---- the store of a whole compound file

-- the store of the root, which has no list of a message
unfoldable pub store_file : List ℕ → Result Store Fault
store_file b = do
  root ← open_file b
  no_message ← check (not (is_some (stream_named root.children PROPERTIES))) STORE_IS_MESSAGE (size_place_at (stream_named root.children PROPERTIES))
  store_in root

-- the same as a relation, for as many bytes as an input may have
pub record IsStoreFile (b : List ℕ) (x : Store) : Type 0 where
  pub few : length b ≤ MOST_BYTES
  pub root : Files
  pub holds : FileHolds b root
  pub no_message : is_some (stream_named root.children PROPERTIES) ≡ false
  pub means : StoreMeans root x

-- ---- written

-- the compound file of a store
abbrev pub store_bytes : Store → List ℕ
store_bytes s = layout 512 s.class s.members
