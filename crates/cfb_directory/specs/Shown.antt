-- Opened files as plain data.
use Rattle.std.specs.Prelude.{ℕ, Result, Ok, Err}
use Rattle.carrier_model.specs.Files as plain
use Rattle.carrier_model.specs.Loads.{Loaded, mini_bound}
use Rattle.carrier_model.specs.Trail.{Fault}
use Rattle.cfb_directory.specs.Shapes.{shape, table_of}
use Rattle.cfb_directory.specs.Trees.{Table}
use Rattle.cfb_directory.specs.declared.files.Files.{Files}

abbrev pub table_in : Files → Table
table_in f = table_of f.sectors f.streams.numbers.items f.streams.views.items f.families.items

abbrev pub files : Files → plain.Files
files f = shape (table_in f)

-- how many mini sectors may be followed: none where the tables have a fault
abbrev pub mini_limit : Result Loaded Fault → ℕ
mini_limit (Ok s) = mini_bound s.mini
mini_limit (Err g) = 0
