-- Storages and streams without numbers or places: those that are to be written to a compound file, and those of a store
-- that an attachment holds. [MS-CFB 1.3, 2.6]
use Rattle.std.specs.Prelude.{ℕ, suc, ◌+◌, ◌<◌, ◌≤◌, ◌^◌, max, List, [], ◌∷◌, length, map}
use Rattle.std.specs.List.{AllByRecursion}
use Rattle.std.specs.Char.{to_ascii_uppercase}
use Rattle.std.specs.Cmp.Lexicographic.{slice_cmp}
use Rattle.std.specs.Ordering.{nat_cmp, then_cmp, on}
use Rattle.std.specs.declared.cmp.Ordering.{Ordering}
use Rattle.carrier_model.specs.Sorted.{choose}

-- What is in a storage: its first child, and the others. A name is a list of UTF-16 units; a storage has a class of 16
-- bytes.
pub data FileTree : Type 0 where
  no_file : FileTree
  stream : (name bytes : List ℕ) → (others : FileTree) → FileTree
  storage : (name class : List ℕ) → (inside others : FileTree) → FileTree

-- no class
abbrev pub NO_CLASS : List ℕ
NO_CLASS = 0 ∷ 0 ∷ 0 ∷ 0 ∷ 0 ∷ 0 ∷ 0 ∷ 0 ∷ 0 ∷ 0 ∷ 0 ∷ 0 ∷ 0 ∷ 0 ∷ 0 ∷ 0 ∷ []

-- the children of one, and then those of another
abbrev pub and_files : FileTree → FileTree → FileTree
and_files no_file more = more
and_files (stream name bytes others) more = stream name bytes (and_files others more)
and_files (storage name class inside others) more = storage name class inside (and_files others more)

-- streams by name and bytes
abbrev pub streams_from : List (List ℕ × List ℕ) → FileTree
streams_from [] = no_file
streams_from (one ∷ others) = stream one.0 one.1 (streams_from others)

-- all entries, at every depth
abbrev pub entries_in : FileTree → ℕ
entries_in no_file = 0
entries_in (stream name bytes others) = suc (entries_in others)
entries_in (storage name class inside others) = suc (entries_in inside + entries_in others)

-- A store is a storage by itself: its class, and what is in it.
pub record Store : Type 0 where
  pub class : List ℕ
  pub members : FileTree

-- all streams, at every depth, and their bytes together
abbrev pub stream_count : FileTree → ℕ
stream_count no_file = 0
stream_count (stream name bytes others) = suc (stream_count others)
stream_count (storage name class inside others) = stream_count inside + stream_count others

abbrev pub byte_count : FileTree → ℕ
byte_count no_file = 0
byte_count (stream name bytes others) = length bytes + byte_count others
byte_count (storage name class inside others) = byte_count inside + byte_count others

-- how many storages stand one below another
abbrev pub storage_depth : FileTree → ℕ
storage_depth no_file = 0
storage_depth (stream name bytes others) = storage_depth others
storage_depth (storage name class inside others) = max (storage_depth inside + 1) (storage_depth others)

-- ---- names

abbrev pub file_names : FileTree → List (List ℕ)
file_names no_file = []
file_names (stream name bytes others) = name ∷ file_names others
file_names (storage name class inside others) = name ∷ file_names others

-- at most 31 units
pub record IsFileName (name : List ℕ) : Type 0 where
  pub few : length name ≤ 31
  pub units : AllByRecursion (λ unit. unit < 2 ^ 16) name

-- ---- the order of siblings

-- by length, and then by the characters in upper case [MS-CFB 2.6.4]
abbrev pub sibling_cmp : List ℕ → List ℕ → Ordering
sibling_cmp = then_cmp (on length nat_cmp) (on (map to_ascii_uppercase) (slice_cmp nat_cmp))

-- a stream, or a storage, in its place among sorted siblings
abbrev pub with_stream : List ℕ → List ℕ → FileTree → FileTree
with_stream name bytes no_file = stream name bytes no_file
with_stream name bytes (stream other x others) =
    choose (sibling_cmp other name) (stream other x (with_stream name bytes others)) (stream name bytes (stream other x others)) (stream name bytes (stream other x others))
with_stream name bytes (storage other class inside others) =
    choose (sibling_cmp other name) (storage other class inside (with_stream name bytes others)) (stream name bytes (storage other class inside others)) (stream name bytes (storage other class inside others))

abbrev pub with_storage : List ℕ → List ℕ → FileTree → FileTree → FileTree
with_storage name class inside no_file = storage name class inside no_file
with_storage name class inside (stream other x others) =
    choose (sibling_cmp other name) (stream other x (with_storage name class inside others)) (storage name class inside (stream other x others)) (storage name class inside (stream other x others))
with_storage name class inside (storage other kind below others) =
    choose (sibling_cmp other name) (storage other kind below (with_storage name class inside others)) (storage name class inside (storage other kind below others)) (storage name class inside (storage other kind below others))

-- ---- children as a list

-- what stands under a name
pub data Member : Type 0 where
  bytes_at : (bytes : List ℕ) → Member
  store_at : (inner : Store) → Member

abbrev pub Named : Type 0
Named = List ℕ × Member

-- a child in front of others
abbrev pub in_front : List ℕ → Member → FileTree → FileTree
in_front name (bytes_at bytes) others = stream name bytes others
in_front name (store_at inner) others = storage name inner.class inner.members others

abbrev pub files_from : List Named → FileTree
files_from [] = no_file
files_from (one ∷ others) = in_front one.0 one.1 (files_from others)

-- and the list again
abbrev pub files_listed : FileTree → List Named
files_listed no_file = []
files_listed (stream name bytes others) = (name, bytes_at bytes) ∷ files_listed others
files_listed (storage name class inside others) = (name, store_at (record { class = class; members = inside })) ∷ files_listed others

-- a child in its place among sorted siblings
abbrev pub with_member : List ℕ → Member → FileTree → FileTree
with_member name (bytes_at bytes) files = with_stream name bytes files
with_member name (store_at inner) files = with_storage name inner.class inner.members files

-- ---- in order

-- the children of each storage in their order
abbrev pub sorted : FileTree → FileTree
sorted no_file = no_file
sorted (stream name bytes others) = with_stream name bytes (sorted others)
sorted (storage name class inside others) = with_storage name class (sorted inside) (sorted others)

-- a child with what is below it in order
abbrev pub in_order_below : Named → Named
in_order_below (name, bytes_at bytes) = (name, bytes_at bytes)
in_order_below (name, store_at inner) = (name, store_at (record { class = inner.class; members = sorted inner.members }))
