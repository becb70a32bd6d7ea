-- Entries by the places of their files.
use Rattle.std.specs.Prelude.{◌≡◌, ℕ, ◌<◌, ◌≤◌, List, [], length, get_or, map}
use Rattle.carrier_model.specs.FileTrees.{FileTree, NO_CLASS, entries_in}
use Rattle.carrier_model.specs.Layout.{Slot, STREAM, STORAGE}
use Rattle.carrier_model.specs.Totals.{capped}
use Rattle.cfb_list.specs.Listed.{Child, stream, storage, children_at}
use Rattle.cfb_writer.specs.declared.placing.Place.{Place}
use Rattle.cfb_writer.specs.declared.totals.Totals.{Totals}

abbrev pub slot_of : Child → ℕ → ℕ → ℕ → Slot
slot_of (stream name bytes) left right child = record { name = name; class = NO_CLASS; kind = STREAM; left = left; right = right; child = child; bytes = bytes }
slot_of (storage name class number) left right child = record { name = name; class = class; kind = STORAGE; left = left; right = right; child = child; bytes = [] }

abbrev pub child_at : List (List Child) → ℕ → ℕ → Child
child_at storages k file = get_or (children_at storages k) file (stream [] [])

-- there is a file
abbrev pub IsPlace : List (List Child) → Place → Type 0
IsPlace storages p = (p.storage < length storages) × (p.file < length (children_at storages p.storage))

abbrev pub slot_at : List (List Child) → Place → Slot
slot_at storages p = slot_of (child_at storages p.storage p.file) p.left p.right p.child

abbrev pub slots_at : List (List Child) → List Place → List Slot
slots_at storages = map (slot_at storages)

-- the totals of each storage from one on count its entries
abbrev pub AreCounted : (ℕ → FileTree) → ℕ → List Totals → Type 0
AreCounted tree from totals = (k : ℕ) (d : Totals) → from ≤ k → k < length totals → (get_or totals k d).entries ≡ capped (entries_in (tree k))
