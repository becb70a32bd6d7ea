-- The tree that entries and their children make.
use Rattle.std.specs.Prelude.{ℕ, List}
use Rattle.carrier_model.specs.Files.{Children, Files}
use Rattle.cfb_sectors.specs.States.{State, entry_of, place_of}
use Rattle.cfb_sectors.specs.declared.view.StreamView.{StreamView}
use Rattle.cfb_directory.specs.Families.{family_at}
use Rattle.cfb_directory.specs.Nodes.{stream_at}
use Rattle.cfb_directory.specs.Trees.{Table, under}
use Rattle.cfb_directory.specs.declared.family.Family.{Family}

abbrev pub table_of : State → List ℕ → List StreamView → List Family → Table
table_of s numbers views families = record { kids = family_at families; entry = entry_of s; place = place_of s; stream = stream_at numbers views }

-- more levels than storages stand one in another: the root's children have depth 1, and a storage's depth is at most 100
abbrev pub deepest : ℕ
deepest = 102

-- what is below an entry
abbrev pub tree_at : Table → ℕ → Children
tree_at T id = under T deepest id

abbrev pub shape : Table → Files
shape T = record { place = T.place 0; class = (T.entry 0).class; children = tree_at T 0 }
