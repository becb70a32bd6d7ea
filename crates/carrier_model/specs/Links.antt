-- A directory's entries as they are linked (MS-CFB 2.6.4), and the first fault of a walk over them.
use Rattle.std.specs.Prelude.{◌≡◌, ℕ, zero, suc, ◌+◌, ◌<◌, List, [], ◌∷◌, ◌++◌, Bool, true, false, not, ◌&&◌, ◌||◌, nat_lt, nat_le, nat_eq, ◌%◌, if◌then◌else◌, Result, Ok}
use Rattle.carrier_model.specs.Trail.{Fault}
use Rattle.carrier_model.specs.Outcomes.{◌>>=◌, check}
use Rattle.carrier_model.specs.Reasons.{ENTRY_OUT_OF_RANGE, ENTRY_SHARED, BAD_ENTRY_TYPE, BAD_NAME, STORAGE_TOO_DEEP}
use Rattle.carrier_model.specs.Chains.{member}
use Rattle.carrier_model.specs.Entries.{Entry}

-- the entries by number, and where each lies
pub record Directory : Type 0 where
  pub count : ℕ
  pub entry : ℕ → Entry
  pub place : ℕ → ℕ

abbrev pub no_link : ℕ
no_link = 4294967295

-- entries, each with what is under its left link, its right link and its child link
pub data Links : Type 0 where
  leaf : Links
  node : (id : ℕ) → Links → Links → Links → Links

abbrev pub is_storage : Entry → Bool
is_storage e = nat_eq e.kind 1

-- a storage or a stream
abbrev pub has_type : Entry → Bool
has_type e = nat_eq e.kind 1 || nat_eq e.kind 2

-- a name of up to 31 units and its null
abbrev pub has_name : Entry → Bool
has_name e = nat_eq (e.name_bytes % 2) 0 && (nat_le 2 e.name_bytes && nat_le e.name_bytes 64)

abbrev pub fits_depth : Entry → ℕ → Bool
fits_depth e depth = not (is_storage e) || nat_le depth 100

-- a stream has nothing below it
abbrev pub below_link : Entry → ℕ
below_link e = if is_storage e then e.child else no_link

abbrev pub below_depth : Entry → ℕ → ℕ
below_depth e depth = if is_storage e then depth + 1 else 0

-- an entry that may be a child at this depth
pub record IsChild (entry : Entry) (depth : ℕ) : Type 0 where
  pub typed : has_type entry ≡ true
  pub named : has_name entry ≡ true
  pub shallow : fits_depth entry depth ≡ true

-- The entries that are linked at x, whose children have this depth.
abbrev pub Linked : Directory → ℕ → ℕ → Links → Type 0
Linked d depth x leaf = x ≡ no_link
Linked d depth x (node id l r c) =
    (x ≡ id) × (id < d.count) × IsChild (d.entry id) depth
    × Linked d depth (d.entry id).left l × Linked d depth (d.entry id).right r
    × Linked d (below_depth (d.entry id) depth) (below_link (d.entry id)) c

-- the numbers, an entry before what is under its left link, its right link and its child link
abbrev pub ids : Links → List ℕ
ids leaf = []
ids (node id l r c) = id ∷ (ids l ++ (ids r ++ ids c))

-- the siblings in order
abbrev pub siblings : Links → List ℕ
siblings leaf = []
siblings (node id l r c) = siblings l ++ id ∷ siblings r

-- Each number of the list is none of the seen ones, and none that stands before it.
abbrev pub AreNew : List ℕ → List ℕ → Type 0
AreNew seen [] = Unit {0}
AreNew seen (x ∷ xs) = (member x seen ≡ false) × AreNew (seen ++ x ∷ []) xs

-- a link: what it names, where it lies, and the depth of what it names
pub record Link : Type 0 where
  pub target : ℕ
  pub place : ℕ
  pub depth : ℕ

-- the entry that a link names, which was not visited before
unfoldable pub visited : Directory → Link → List ℕ → Result Entry Fault
visited d link seen = do
  exists ← check (nat_lt link.target d.count) ENTRY_OUT_OF_RANGE link.place
  new ← check (not (member link.target seen)) ENTRY_SHARED link.place
  typed ← check (has_type (d.entry link.target)) BAD_ENTRY_TYPE (d.place link.target + 66)
  named ← check (has_name (d.entry link.target)) BAD_NAME (d.place link.target + 64)
  shallow ← check (fits_depth (d.entry link.target) link.depth) STORAGE_TOO_DEEP (d.place link.target + 66)
  Ok (d.entry link.target)

-- the links of an entry, with the depth of what they name
abbrev pub left_of : Directory → Link → Link
left_of d link = record { target = (d.entry link.target).left; place = d.place link.target + 68; depth = link.depth }

abbrev pub right_of : Directory → Link → Link
right_of d link = record { target = (d.entry link.target).right; place = d.place link.target + 72; depth = link.depth }

abbrev pub below_of : Directory → Link → Link
below_of d link = record { target = below_link (d.entry link.target); place = d.place link.target + 76; depth = below_depth (d.entry link.target) link.depth }

-- What is linked there, by visits: an entry, what is under its left link, its right link, its child link. Each is tested
-- against the numbers of all earlier visits. At most k links stand one under another.
unfoldable pub visit : ℕ → Directory → Link → List ℕ → Result Links Fault
visit zero d link seen = Ok leaf
visit (suc k) d link seen =
    if nat_eq link.target no_link then Ok leaf else (do
      e ← visited d link seen
      l ← visit k d (left_of d link) (seen ++ link.target ∷ [])
      r ← visit k d (right_of d link) ((seen ++ link.target ∷ []) ++ ids l)
      c ← visit k d (below_of d link) (((seen ++ link.target ∷ []) ++ ids l) ++ ids r)
      Ok (node link.target l r c))

-- the whole walk from a link: no link stands under more others than there are entries
abbrev pub links_of : Directory → Link → List ℕ → Result Links Fault
links_of d link seen = visit (suc d.count) d link seen
