-- The entries of a directory: the root, and all others in the order of their numbers.
use Rattle.std.specs.Prelude.{ℕ, ◌≤◌, ◌<◌, ◌^◌, List, [], ◌∷◌, length, codes}
use Rattle.carrier_model.specs.Layout.{Slot, ROOT}
use Rattle.carrier_model.specs.Links.{no_link}

-- the class and the child of the root, and the other entries
pub record Laid : Type 0 where
  pub root_class : List ℕ
  pub top : ℕ
  pub others : List Slot

abbrev pub root_slot : List ℕ → ℕ → Slot
root_slot class top = record { name = codes "Root Entry"; class = class; kind = ROOT; left = no_link; right = no_link; child = top; bytes = [] }

abbrev pub slots_in : Laid → List Slot
slots_in laid = root_slot laid.root_class laid.top ∷ laid.others

-- its name has at most 31 units, and its bytes are so few that a word tells how many
pub record IsShort (s : Slot) : Type 0 where
  pub name : length s.name ≤ 31
  pub size : length s.bytes < 2 ^ 32

abbrev pub bytes_of : Slot → List ℕ
bytes_of s = s.bytes

abbrev pub others_of : Laid → List Slot
others_of laid = laid.others
