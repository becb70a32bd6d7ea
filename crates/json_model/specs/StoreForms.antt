-- OLE stores: their storages and streams as a list, a storage before what is in it. [MS-CFB 1.3 and 2.6.4]
use Rattle.std.specs.Prelude.{ℕ, zero, suc, ◌==◌, ◌&&◌, nat_le, nat_lt, map, Bool, not, if◌then◌else◌, List, [], ◌∷◌, ◌++◌, length, take, ◌-◌, Result, Ok, Err, codes, bytes_eq}
use Rattle.std.specs.Cmp.Lexicographic.{slice_cmp, pointwise}
use Rattle.std.specs.List.{list_all}
use Rattle.std.specs.Ordering.{is_lt}
use Rattle.serde_json.specs.Data.{Data, object, member, no_members}
use Rattle.carrier_model.specs.FileTrees.{FileTree, no_file, stream, storage, Store, sibling_cmp}
use Rattle.carrier_model.specs.Lookups.{same_name}
use Rattle.carrier_model.specs.Stores.{PROPERTIES, MOST_STORAGES}
use Rattle.json_model.specs.Digits.{read_hex, read_guid}
use Rattle.json_model.specs.Faults.{JsonFault, form, order, deep, ◌>>=◌, check, under, fault_here}
use Rattle.json_model.specs.Parts.{has_members, member_at, read_array, read_each}
use Rattle.json_model.specs.Properties.{listed_json, hex_json}
use Rattle.json_model.specs.Texts.{name_json, read_name}

-- ---- members

-- a storage or a stream, by the names from the store down to it
pub data Entry : Type 0 where
  storage_entry : (path : List (List ℕ)) → (class : List ℕ) → Entry
  stream_entry : (path : List (List ℕ)) → (bytes : List ℕ) → Entry

abbrev pub path_of : Entry → List (List ℕ)
path_of (storage_entry path class) = path
path_of (stream_entry path bytes) = path

-- the members of a storage and of all below it, each before those in it
abbrev pub entries_below : List (List ℕ) → FileTree → List Entry
entries_below above no_file = []
entries_below above (stream name x others) = stream_entry (above ++ name ∷ []) x ∷ entries_below above others
entries_below above (storage name class inside others) =
    storage_entry (above ++ name ∷ []) class ∷ (entries_below (above ++ name ∷ []) inside ++ entries_below above others)

-- ---- written

abbrev pub path_json : List (List ℕ) → Data
path_json path = listed_json (map name_json path)

abbrev pub entry_json : Entry → Data
entry_json (storage_entry path class) = object (member (codes "class") (hex_json class) (member (codes "path") (path_json path) no_members))
entry_json (stream_entry path x) = object (member (codes "data") (hex_json x) (member (codes "path") (path_json path) no_members))

abbrev pub store_json : Store → Data
store_json s =
    object (member (codes "class") (hex_json s.class)
    (member (codes "members") (listed_json (map entry_json (entries_below [] s.members))) no_members))

-- ---- read

abbrev pub STORAGE : List (List ℕ)
STORAGE = codes "class" ∷ codes "path" ∷ []

abbrev pub STREAM : List (List ℕ)
STREAM = codes "data" ∷ codes "path" ∷ []

abbrev pub STORE : List (List ℕ)
STORE = codes "class" ∷ codes "members" ∷ []

-- a member's name has at most 31 units
abbrev pub MOST_NAME : ℕ
MOST_NAME = 31

-- the names of a path, of which there is one at least
abbrev pub read_path : Data → Result (List (List ℕ)) JsonFault
read_path v = do
  path ← read_each (read_name MOST_NAME) v
  some ← check (nat_lt 0 (length path)) form
  Ok path

abbrev pub read_storage_entry : Data → Result Entry JsonFault
read_storage_entry v = do
  a ← member_at (codes "class") v
  class ← under 0 (read_guid a)
  b ← member_at (codes "path") v
  path ← under 1 (read_path b)
  Ok (storage_entry path class)

abbrev pub read_stream_entry : Data → Result Entry JsonFault
read_stream_entry v = do
  a ← member_at (codes "data") v
  x ← under 0 (read_hex a)
  b ← member_at (codes "path") v
  path ← under 1 (read_path b)
  Ok (stream_entry path x)

abbrev pub read_entry : Data → Result Entry JsonFault
read_entry v =
    if has_members STORAGE v then read_storage_entry v
    else (if has_members STREAM v then read_stream_entry v else Err (fault_here form))

-- the storage that a member is in, by its path
abbrev pub above_of : Entry → List (List ℕ)
above_of e = take (length (path_of e) - 1) (path_of e)

-- the innermost storage that is open behind a member: itself, or the one that it is in
abbrev pub open_behind : Entry → List (List ℕ)
open_behind (storage_entry path class) = path
open_behind (stream_entry path x) = take (length path - 1) path

-- one path is the other, or leads to it
abbrev pub leads_to : List (List ℕ) → List (List ℕ) → Bool
leads_to one other = pointwise bytes_eq one (take (length one) other)

-- Behind a member comes one that is above it, name by name in the order of siblings, in a storage that is open.
abbrev pub follows : Entry → Entry → Bool
follows last e = is_lt (slice_cmp sibling_cmp (path_of last) (path_of e)) && leads_to (above_of e) (open_behind last)

-- the first member stands in the store itself
abbrev pub comes_next : List Entry → Entry → Bool
comes_next [] e = length (path_of e) == 1
comes_next (last ∷ []) e = follows last e
comes_next (one ∷ other ∷ more) e = comes_next (other ∷ more) e

abbrev pub read_next_entry : List Entry → Data → Result Entry JsonFault
read_next_entry before v = do
  e ← read_entry v
  next ← check (comes_next before e) order
  Ok e

abbrev pub read_entries : Data → Result (List Entry) JsonFault
read_entries = read_array read_next_entry

-- ---- the members as a tree

-- the last name of a path
abbrev pub last_name : List (List ℕ) → List ℕ
last_name [] = []
last_name (name ∷ []) = name
last_name (name ∷ next ∷ more) = last_name (next ∷ more)

abbrev pub is_below : ℕ → Entry → Bool
is_below level e = nat_lt level (length (path_of e))

-- those at the front whose paths have more than so many names, and those behind
abbrev pub front_below : ℕ → List Entry → List Entry
front_below level [] = []
front_below level (e ∷ more) = if is_below level e then e ∷ front_below level more else []

abbrev pub behind_below : ℕ → List Entry → List Entry
behind_below level [] = []
behind_below level (e ∷ more) = if is_below level e then behind_below level more else e ∷ more

-- The members of a storage whose path has so many names, of at most so many entries: what is in one of them stands
-- right behind it.
abbrev pub files_within : (most level : ℕ) → List Entry → FileTree
files_within zero level entries = no_file
files_within (suc most) level [] = no_file
files_within (suc most) level (stream_entry path x ∷ more) = stream (last_name path) x (files_within most level more)
files_within (suc most) level (storage_entry path class ∷ more) =
    storage (last_name path) class (files_within most (suc level) (front_below (suc level) more)) (files_within most level (behind_below (suc level) more))

abbrev pub files_of : List Entry → FileTree
files_of entries = files_within (length entries) 0 entries

-- at most 32 storages one below another, and no stream in the store itself that makes it a message
abbrev pub is_fit : Entry → Bool
is_fit (storage_entry path class) = nat_le (length path) MOST_STORAGES
is_fit (stream_entry path x) = not ((length path == 1) && same_name (last_name path) PROPERTIES)

abbrev pub read_store : Data → Result Store JsonFault
read_store v = do
  whole ← check (has_members STORE v) form
  a ← member_at (codes "class") v
  class ← under 0 (read_guid a)
  b ← member_at (codes "members") v
  entries ← under 1 (read_entries b)
  fit ← check (list_all is_fit entries) deep
  Ok (record { class = class; members = files_of entries })
