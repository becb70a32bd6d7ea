-- Kinds as rows of the table of their names.
use Rattle.std.specs.Prelude.{ℕ, List, [], unwrap_or}
use Rattle.carrier_model.specs.KindNames.{kind_name}
use Rattle.prop_values.specs.Kinds.{kind_number}
use Rattle.prop_values.specs.declared.kinds.Kind.{Kind}

abbrev pub kind_row : Kind → ℕ × List ℕ
kind_row kind = (kind_number kind, unwrap_or (kind_name (kind_number kind)) [])
