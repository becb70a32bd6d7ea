-- A compound file holds files, as a relation: lists that exist, with no marks and no order of tests (MS-CFB 2.2 to 2.6).
use Rattle.std.specs.Prelude.{◌≡◌, ℕ, ◌+◌, ◌-◌, ◌<◌, ◌≤◌, List, [], ◌∷◌, ◌++◌, length, map, get_or, true, nat_eq, if◌then◌else◌, Ok}
use Rattle.std.specs.List.{range_with_len, flat_map, IsDistinct, AllByRecursion}
use Rattle.std.specs.Cmp.Lexicographic.{pointwise}
use Rattle.std.specs.Int.{div_ceil}
use Rattle.carrier_model.specs.Chains.{Chain}
use Rattle.carrier_model.specs.Entries.{Entry}
use Rattle.carrier_model.specs.Files.{Children, none, storage, stream, Files, folded, directory_in, stream_ids, files_of}
use Rattle.carrier_model.specs.Links.{Directory, Links, Linked, ids}
use Rattle.carrier_model.specs.Loads.{Table, Mini, Loaded, no_mini, chain_bound, mini_bound, taken_by, long_part, short_part}
use Rattle.carrier_model.specs.Sectors.{sector_start, whole_count, u32_of, table_words}
use Rattle.carrier_model.specs.Streams.{places_of, starts_of, mini_offsets, lie_below}
use Rattle.carrier_model.specs.Tables.{Head, sector_size, header_of, difat_count, fat_place}

-- these sectors are whole
abbrev pub AreWhole : ℕ → List ℕ → List ℕ → Type 0
AreWhole z b sectors = AllByRecursion (λ n. n < whole_count z b) sectors

-- where the i-th DIFAT sector is named: the first in the header, the others by the last word of the one before
abbrev pub difat_place : ℕ → List ℕ → ℕ → ℕ
difat_place z L i = if nat_eq i 0 then 68 else sector_start z (get_or L (i - 1) 0) + (z - 4)

-- the DIFAT's sectors, and the table with the sectors that hold it
pub record IsTable (z : ℕ) (b : List ℕ) (f : ℕ) (difat : List ℕ) (t : Table) : Type 0 where
  pub difat_length : length difat ≡ difat_count z f
  pub difat_named : (i : ℕ) → i < length difat → get_or difat i 0 ≡ u32_of b (difat_place z difat i)
  pub named : t.sectors ≡ map (λ i. u32_of b (fat_place z difat i)) (range_with_len 0 f)
  pub whole : AreWhole z b (difat ++ t.sectors)
  pub apart : IsDistinct nat_eq (difat ++ t.sectors)
  pub words : t.words ≡ table_words z b t.sectors

-- a chain in the table with so many bytes, which lie within the file
pub record IsLong (z : ℕ) (b : List ℕ) (t : Table) (start size : ℕ) (c : List ℕ) : Type 0 where
  pub chain : Chain t.words start (chain_bound z b t.words) c
  pub enough : div_ceil size z ≤ length c
  pub within : lie_below (length b) (places_of z (starts_of z c) size) ≡ true

-- a chain in the mini FAT with so many bytes, which lie within the mini stream
pub record IsShort (m : Mini) (start size : ℕ) (c : List ℕ) : Type 0 where
  pub chain : Chain m.table.words start (mini_bound m) c
  pub enough : div_ceil size 64 ≤ length c
  pub within : lie_below m.size (places_of 64 (mini_offsets c) size) ≡ true

-- the mini FAT from first, and the mini stream from start
pub record HasMini (z : ℕ) (b : List ℕ) (t : Table) (first start : ℕ) (m : Mini) : Type 0 where
  pub chain : Chain t.words first (chain_bound z b t.words) m.table.sectors
  pub whole : AreWhole z b m.table.sectors
  pub words : m.table.words ≡ table_words z b m.table.sectors
  pub stream : IsLong z b t start m.size m.stream

-- There are a mini FAT and a mini stream where the root's size isn't 0.
pub record IsMini (z : ℕ) (b : List ℕ) (t : Table) (first : ℕ) (root : Entry) (m : Mini) : Type 0 where
  pub sized : m.size ≡ root.size
  pub empty : root.size ≡ 0 → m ≡ no_mini
  pub some : 0 < root.size → HasMini z b t first root.start m

-- the chain of a stream of an entry; an empty stream has none
pub record IsStream (z : ℕ) (b : List ℕ) (s : Loaded) (e : Entry) (c : List ℕ) : Type 0 where
  pub empty : e.size ≡ 0 → c ≡ []
  pub short : 0 < e.size → e.size < 4096 → IsShort s.mini e.start e.size c
  pub long : 4096 ≤ e.size → IsLong z b s.table e.start e.size c

-- the names of the children
abbrev pub child_names : Children → List (List ℕ)
child_names none = []
child_names (storage t below rest) = t.name ∷ child_names rest
child_names (stream t bytes rest) = t.name ∷ child_names rest

-- no two names are equal with their ASCII letters in one case
abbrev pub AreApart : List (List ℕ) → Type 0
AreApart names = IsDistinct (pointwise nat_eq) (map folded names)

-- no storage under these children has two children of one name
abbrev pub HaveNames : Children → Type 0
HaveNames none = Unit {0}
HaveNames (storage t below rest) = AreApart (child_names below) × HaveNames below × HaveNames rest
HaveNames (stream t bytes rest) = HaveNames rest

-- The file has these tables: the DIFAT's sectors, the table, the directory's chain, the mini FAT and the mini stream.
pub record IsLoaded (z : ℕ) (b : List ℕ) (s : Loaded) : Type 0 where
  pub head : Head
  pub header : header_of z b ≡ Ok head
  pub table : IsTable z b head.fat_count s.difat s.table
  pub directory : Chain s.table.words head.directory (chain_bound z b s.table.words) s.directory
  pub some : 1 ≤ length s.directory
  pub whole : AreWhole z b s.directory
  pub root : ((directory_in z b s.directory).entry 0).kind ≡ 5
  pub mini : IsMini z b s.table head.mini_fat ((directory_in z b s.directory).entry 0) s.mini

-- what the chains of these streams take of the table, and of the mini FAT
abbrev pub long_parts : Directory → (ℕ → List ℕ) → List ℕ → List ℕ
long_parts d chain streams = flat_map (λ id. long_part (d.entry id) (chain id)) streams

abbrev pub short_parts : Directory → (ℕ → List ℕ) → List ℕ → List ℕ
short_parts d chain streams = flat_map (λ id. short_part (d.entry id) (chain id)) streams

-- The file holds these files, in sectors of z bytes: links are the directory's entries as they are linked, and chain
-- gives each stream's chain. No two chains in the table have a sector in common, nor have two in the mini FAT.
pub record Holds (z : ℕ) (b : List ℕ) (files : Files) : Type 0 where
  pub loaded : Loaded
  pub tables : IsLoaded z b loaded
  pub links : Links
  pub linked : Linked (directory_in z b loaded.directory) 1 ((directory_in z b loaded.directory).entry 0).child links
  pub once : IsDistinct nat_eq (0 ∷ ids links)
  pub chain : ℕ → List ℕ
  pub streams : AllByRecursion (λ id. IsStream z b loaded ((directory_in z b loaded.directory).entry id) (chain id)) (stream_ids (directory_in z b loaded.directory) links)
  pub apart : IsDistinct nat_eq (taken_by loaded ++ long_parts (directory_in z b loaded.directory) chain (stream_ids (directory_in z b loaded.directory) links))
  pub mini_apart : IsDistinct nat_eq (short_parts (directory_in z b loaded.directory) chain (stream_ids (directory_in z b loaded.directory) links))
  pub is_tree : files ≡ files_of z b loaded chain links
  pub root_names : AreApart (child_names files.children)
  pub names : HaveNames files.children

-- a file of either version holds these files
abbrev pub FileHolds : List ℕ → Files → Type 0
FileHolds b files = Holds (sector_size b) b files
