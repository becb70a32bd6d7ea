-- What a tree needs room for, as the program keeps it.
use Rattle.std.specs.Prelude.{◌≡◌, ℕ, ◌<◌, ◌≤◌, List, length, get_or}
use Rattle.carrier_model.specs.FileTrees.{FileTree, entries_in}
use Rattle.carrier_model.specs.Totals.{capped}
use Rattle.cfb_list.specs.Trees.{mini_in, long_in}
use Rattle.cfb_writer.specs.declared.totals.Totals.{Totals}

abbrev pub totals_of : ℕ → FileTree → Totals
totals_of z t = record { entries = capped (entries_in t); mini = capped (mini_in t); long = capped (long_in z t) }

-- the totals of each storage from one on are those of its tree
abbrev pub AreKnown : ℕ → (ℕ → FileTree) → ℕ → List Totals → Type 0
AreKnown z tree from totals = (k : ℕ) (d : Totals) → from ≤ k → k < length totals → get_or totals k d ≡ totals_of z (tree k)
