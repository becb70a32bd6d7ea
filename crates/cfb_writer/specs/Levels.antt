-- Levels: the files of a storage whose entries are still to be placed, from one of them on.
use Rattle.std.specs.Prelude.{◌≡◌, ℕ, ◌+◌, ◌<◌, All, List, [], ◌∷◌, ◌++◌, drop, length}
use Rattle.std.specs.List.{AllByRecursion}
use Rattle.carrier_model.specs.FileTrees.{entries_in}
use Rattle.carrier_model.specs.Layout.{Slot, links_of_siblings, sibling_numbers, slots_from, top_of}
use Rattle.cfb_list.specs.Listed.{Child, built, children_at}
use Rattle.cfb_writer.specs.Placed.{IsPlace, slots_at}
use Rattle.cfb_list.specs.Trees.{inside}
use Rattle.cfb_writer.specs.declared.placing.Level.{Level}
use Rattle.cfb_writer.specs.declared.placing.Place.{Place}

abbrev pub files_left : List (List Child) → Level → List Child
files_left storages l = drop l.file (children_at storages l.storage)

-- there is such a storage, and each of its files has its links
pub record IsLevel (storages : List (List Child)) (l : Level) : Type 0 where
  pub exists : l.storage < length storages
  pub linked : length l.links.items ≡ length (children_at storages l.storage)

-- all files of a storage, where the first has this number
pub record IsWhole (storages : List (List Child)) (storage first : ℕ) (l : Level) : Type 0 where
  pub level : IsLevel storages l
  pub top : l.top ≡ top_of (sibling_numbers first (inside storages storage))
  pub links : drop l.file l.links.items ≡ links_of_siblings (sibling_numbers first (inside storages storage))
  pub left : built (inside storages) (files_left storages l) ≡ inside storages storage

-- how many entries levels have, and the entries, where the next one has the number n: a level lies above that which it
-- is in, and comes first
abbrev pub entries_left : List (List Child) → List Level → ℕ
entries_left storages [] = 0
entries_left storages (l ∷ above) = entries_left storages above + entries_in (built (inside storages) (files_left storages l))

abbrev pub slots_left : List (List Child) → ℕ → List Level → List Slot
slots_left storages n [] = []
slots_left storages n (l ∷ above) =
    slots_left storages n above
    ++ slots_from (n + entries_left storages above) (drop l.file l.links.items) (built (inside storages) (files_left storages l))

-- Some entries were placed: with those that are left now they are those that were placed and left before.
pub record Proceeds (storages : List (List Child)) (old new : List Place) (before now : List Level) : Type 0 where
  pub valid : All (IsPlace storages) new
  pub levels : AllByRecursion (IsLevel storages) now
  pub slots : slots_at storages new ++ slots_left storages (length new + 1) now ≡ slots_at storages old ++ slots_left storages (length old + 1) before
  pub room : length new + entries_left storages now ≡ length old + entries_left storages before
