-- Names as they are written.
use Rattle.std.specs.Prelude.{ℕ, List, map, take, drop}
use Rattle.cfb_directory.specs.declared.spelled.Names.{Names}
use Rattle.cfb_directory.specs.declared.spelled.Span.{Span}

-- the units of a name
abbrev pub units_in : List ℕ → Span → List ℕ
units_in units s = take s.len (drop s.start units)

abbrev pub names_in : Names → List (List ℕ)
names_in n = map (units_in n.units.items) n.spans.items
