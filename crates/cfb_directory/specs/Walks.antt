-- The walk over a directory, by what is pending.
use Rattle.std.specs.Prelude.{ℕ, suc, ◌+◌, ◌<◌, ◌≤◌, List, [], ◌∷◌, ◌++◌, Result, Ok, Err}
use Rattle.carrier_model.specs.Trail.{Fault}
use Rattle.carrier_model.specs.Outcomes.{◌>>=◌, mapped}
use Rattle.carrier_model.specs.Entries.{Entry}
use Rattle.carrier_model.specs.Links.{Directory, Link, Links, leaf, node, ids, visit, links_of, below_link, below_depth}
use Rattle.carrier_model.specs.Files.{directory_in}
use Rattle.cfb_sectors.specs.States.{State}
use Rattle.cfb_directory.specs.declared.links.Link as rust
use Rattle.cfb_directory.specs.declared.links.Member.{Member}
use Rattle.cfb_directory.specs.declared.links.Walked as rust_walked
use Rattle.cfb_directory.specs.declared.links.Pending.{Pending}
use Rattle.cfb_directory.specs.declared.links.Pending.TheVariants.{Visit, Place}

-- the directory of a loaded file
abbrev pub directory_of : State → Directory
directory_of s = directory_in s.size s.file s.loaded.directory

abbrev pub link_of : rust.Link → Link
link_of link = record { target = link.target; place = link.place; depth = link.depth }

-- each entry with the storage that it is in, in sibling order within each storage
abbrev pub placed : ℕ → Links → List Member
placed parent leaf = []
placed parent (node id l r c) = placed parent l ++ record { parent = parent; id = id } ∷ (placed parent r ++ placed id c)

-- the entries with their storages, and the numbers in the order of the visits
pub record Walked : Type 0 where
  pub order : List Member
  pub visits : List ℕ

abbrev pub walked : rust_walked.Walked → Walked
walked w = record { order = w.order.items; visits = w.visits.items }

abbrev pub tour : ℕ → Links → Walked
tour parent t = record { order = placed parent t; visits = ids t }

-- what a walk from a link gives
abbrev pub walk_of : Directory → rust.Link → List ℕ → Result Walked Fault
walk_of d first seen = mapped (tour first.parent) (links_of d (link_of first) seen)

-- the links of an entry at a place
abbrev pub rust_left : rust.Link → Entry → ℕ → rust.Link
rust_left link e place = record { target = e.left; place = place + 68; depth = link.depth; parent = link.parent }

abbrev pub rust_right : rust.Link → Entry → ℕ → rust.Link
rust_right link e place = record { target = e.right; place = place + 72; depth = link.depth; parent = link.parent }

abbrev pub rust_below : rust.Link → Entry → ℕ → rust.Link
rust_below link e place = record { target = below_link e; place = place + 76; depth = below_depth e link.depth; parent = link.target }

-- the same with a front before each list
abbrev pub with_front : List Member → List ℕ → Result Walked Fault → Result Walked Fault
with_front order visits (Ok rest) = Ok (record { order = order ++ rest.order; visits = visits ++ rest.visits })
with_front order visits (Err g) = Err g

-- What the pending links and places give, one after another.
unfoldable pub pend : Directory → List Pending → List ℕ → Result Walked Fault
pend d [] seen = Ok (record { order = []; visits = [] })
pend d (Visit link ∷ ps) seen = visit (suc d.count) d (link_of link) seen >>= λ t. with_front (placed link.parent t) (ids t) (pend d ps (seen ++ ids t))
pend d (Place child ∷ ps) seen = with_front (child ∷ []) [] (pend d ps seen)

-- both are entries that there are
abbrev pub IsInside : ℕ → Member → Type 0
IsInside count child = (child.parent < count) × (child.id < count)

-- what is pending speaks of entries that there are
abbrev pub IsSafe : ℕ → Pending → Type 0
IsSafe count (Visit link) = (link.depth ≤ 101) × (link.parent < count)
IsSafe count (Place child) = IsInside count child
