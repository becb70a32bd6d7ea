-- Storages of opened files, and their children.
use Rattle.std.specs.Prelude.{ℕ, zero, suc, ◌<◌, List, [], ◌∷◌, Option, None, Some, vec_len}
use Rattle.std.specs.Option.{option_map}
use Rattle.carrier_model.specs.Files as plain
use Rattle.carrier_model.specs.Files.{Children, none, storage, stream}
use Rattle.carrier_model.specs.Lookups.{storage_at}
use Rattle.carrier_model.specs.Streams.{Stream}
use Rattle.cfb_directory.specs.Shapes.{tree_at}
use Rattle.cfb_directory.specs.Shown.{table_in}
use Rattle.cfb_directory.specs.declared.files.Files.{Files}
use Rattle.cfb_directory.specs.declared.lookups.Child as rust
use Rattle.cfb_directory.specs.declared.lookups.StorageId.{StorageId}

-- a storage of these files
abbrev pub IsThere : Files → StorageId → Type 0
IsThere f at = at.entry < vec_len f.families

-- where its entry lies, its class, and what is below it
abbrev pub storage_seen : Files → StorageId → plain.Files
storage_seen f at = let T = table_in f in record { place = T.place at.entry; class = (T.entry at.entry).class; children = tree_at T at.entry }

-- a child's name, and the storage that it is, if it is one
pub record Child : Type 0 where
  pub name : List ℕ
  pub storage : Option plain.Files

abbrev pub child_seen : Files → rust.Child → Child
child_seen f c = record { name = c.units.now; storage = option_map (storage_seen f) c.storage }

-- the children of a storage, one after another
abbrev pub children_list : Children → List Child
children_list none = []
children_list (storage tag below rest) = record { name = tag.name; storage = Some (storage_at tag below) } ∷ children_list rest
children_list (stream tag s rest) = record { name = tag.name; storage = None } ∷ children_list rest

-- the stream at a place among children, if a stream is there
abbrev pub child_stream : Children → ℕ → Option Stream
child_stream none k = None
child_stream (storage tag below rest) zero = None
child_stream (storage tag below rest) (suc k) = child_stream rest k
child_stream (stream tag s rest) zero = Some s
child_stream (stream tag s rest) (suc k) = child_stream rest k
