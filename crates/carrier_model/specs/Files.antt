-- The storages and streams of a compound file, and the first fault of a whole file (MS-CFB 2.6.4).
use Rattle.std.specs.Prelude.{ℕ, ◌+◌, ◌-◌, ◌/◌, List, [], ◌∷◌, ◌++◌, length, map, take, filter, sum, Bool, not, ◌&&◌, nat_eq, if◌then◌else◌, Result, Ok}
use Rattle.std.specs.List.{range_with_len, list_any}
use Rattle.std.specs.Cmp.Lexicographic.{pointwise}
use Rattle.std.specs.Char.{to_ascii_lowercase}
use Rattle.carrier_model.specs.Trail.{Fault}
use Rattle.carrier_model.specs.Reasons.{DOUBLE_NAME}
use Rattle.carrier_model.specs.Outcomes.{◌>>=◌, check, mapped}
use Rattle.carrier_model.specs.Chains.{member}
use Rattle.carrier_model.specs.Entries.{Entry, entry_at, entry_count, entry_place}
use Rattle.carrier_model.specs.Links.{Directory, Link, Links, leaf, node, ids, siblings, is_storage, links_of}
use Rattle.carrier_model.specs.Loads.{Loaded, load_of, taken_by, claim_of, long_part, short_part, stream_of}
use Rattle.carrier_model.specs.Streams.{Stream}
use Rattle.carrier_model.specs.Tables.{sector_size}

-- what a child is called, the number of its entry, where that lies in the file, and its class
pub record Tag : Type 0 where
  pub name : List ℕ
  pub id : ℕ
  pub place : ℕ
  pub class : List ℕ

-- the children of a storage, in sibling order: the first, with what is below it or its bytes, and the rest
pub data Children : Type 0 where
  none : Children
  storage : Tag → (below rest : Children) → Children
  stream : Tag → Stream → (rest : Children) → Children

-- the children of the root, where the root's entry lies, and the root's class
pub record Files : Type 0 where
  pub place : ℕ
  pub class : List ℕ
  pub children : Children

-- a name's units, without its null
abbrev pub name_of : Entry → List ℕ
name_of e = take (e.name_bytes / 2 - 1) e.units

-- a name with its ASCII letters in one case
abbrev pub folded : List ℕ → List ℕ
folded name = map to_ascii_lowercase name

-- whether a folded name is one of these
abbrev pub is_among : List ℕ → List (List ℕ) → Bool
is_among name earlier = list_any (pointwise nat_eq name) earlier

-- the directory of a chain
abbrev pub directory_in : ℕ → List ℕ → List ℕ → Directory
directory_in z b chain = record { count = entry_count z chain; entry = λ id. entry_at z b (entry_place z chain id); place = entry_place z chain }

-- the root's child link; the root's children have depth 1
abbrev pub first_link : Directory → Link
first_link d = record { target = (d.entry 0).child; place = d.place 0 + 76; depth = 1 }

-- Below each entry, in the order of the visits, the siblings of its child link.
abbrev pub families : Links → List (List ℕ)
families leaf = []
families (node id l r c) = siblings c ∷ (families l ++ (families r ++ families c))

-- of all storages, the root first
abbrev pub all_families : Links → List (List ℕ)
all_families t = siblings t ∷ families t

-- No folded name of these siblings is one of the earlier ones, nor one before it.
unfoldable pub family_names : Directory → List ℕ → List (List ℕ) → Result (Unit {0}) Fault
family_names d [] earlier = Ok tt
family_names d (id ∷ rest) earlier = do
  new ← check (not (is_among (folded (name_of (d.entry id))) earlier)) DOUBLE_NAME (d.place id)
  family_names d rest (earlier ++ folded (name_of (d.entry id)) ∷ [])

-- no storage has a name twice
unfoldable pub names_of : Directory → List (List ℕ) → Result (Unit {0}) Fault
names_of d [] = Ok tt
names_of d (family ∷ rest) = do
  apart ← family_names d family []
  names_of d rest

-- the visited streams, by rising number
abbrev pub stream_ids : Directory → Links → List ℕ
stream_ids d t = filter (λ id. member id (ids t) && nat_eq (d.entry id).kind 2) (range_with_len 0 d.count)

-- a stream's entry, and its chain
pub record Claim : Type 0 where
  pub id : ℕ
  pub chain : List ℕ

-- The chains of these streams, each clear of the earlier ones: those in the table, and those in the mini FAT.
unfoldable pub claims_of : ℕ → List ℕ → Loaded → Directory → List ℕ → List ℕ → List ℕ → Result (List Claim) Fault
claims_of z b s d [] long short = Ok []
claims_of z b s d (id ∷ rest) long short = do
  c ← claim_of z b s (d.entry id) (d.place id) long short
  more ← claims_of z b s d rest (long ++ long_part (d.entry id) c) (short ++ short_part (d.entry id) c)
  Ok (record { id = id; chain = c } ∷ more)

-- the chain of an entry
abbrev pub chain_in : List Claim → ℕ → List ℕ
chain_in [] id = []
chain_in (c ∷ cs) id = if nat_eq c.id id then c.chain else chain_in cs id

-- What is linked, as a tree of storages and streams; rest is what stands behind it.
abbrev pub tree_of : Directory → (ℕ → Stream) → Links → Children → Children
tree_of d streams leaf rest = rest
tree_of d streams (node id l r c) rest =
    let tag : Tag = record { name = name_of (d.entry id); id = id; place = d.place id; class = (d.entry id).class } in
    let after = tree_of d streams r rest in
    tree_of d streams l (if is_storage (d.entry id) then storage tag (tree_of d streams c none) after else stream tag (streams id) after)

-- the files of a loaded file, from its links and the chain of each stream
abbrev pub files_of : ℕ → List ℕ → Loaded → (ℕ → List ℕ) → Links → Files
files_of z b s chains t =
    let d = directory_in z b s.directory in
    record { place = d.place 0; class = (d.entry 0).class; children = tree_of d (λ id. stream_of z b s (d.entry id) (chains id)) t none }

-- a file whose links are walked, and whose streams have their chains
pub record Opened : Type 0 where
  pub loaded : Loaded
  pub links : Links
  pub claims : List Claim

-- what a file is with its streams, up to its first fault
unfoldable pub opened_of : ℕ → List ℕ → Result Opened Fault
opened_of z b = do
  s ← load_of z b
  t ← links_of (directory_in z b s.directory) (first_link (directory_in z b s.directory)) (0 ∷ [])
  apart ← names_of (directory_in z b s.directory) (all_families t)
  claims ← claims_of z b s (directory_in z b s.directory) (stream_ids (directory_in z b s.directory) t) (taken_by s) []
  Ok (record { loaded = s; links = t; claims = claims })

-- the files of a file in sectors of z bytes, or its first fault
abbrev pub open_of : ℕ → List ℕ → Result Files Fault
open_of z b = mapped (λ o. files_of z b o.loaded (chain_in o.claims) o.links) (opened_of z b)

-- the files of a file of either version, or its first fault
abbrev pub open_file : List ℕ → Result Files Fault
open_file b = open_of (sector_size b) b

-- how many words are followed in all: one for each member of each chain
abbrev pub steps_of : Opened → ℕ
steps_of o =
    length o.loaded.directory + length o.loaded.mini.table.sectors + length o.loaded.mini.stream
    + sum (map (λ c. length c.chain) o.claims)
