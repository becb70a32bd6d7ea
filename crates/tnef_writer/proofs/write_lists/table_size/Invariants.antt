use Rattle.std.proofs.Common.{◌≡◌, ◌+◌, List, length, take}
use Rattle.std.specs.List.{flat_map}
use Rattle.carrier_model.specs.Keys.{Name}
use Rattle.carrier_model.specs.Totals.{capped}
use Rattle.tnef_writer.specs.Written.{list_alone}
use Rattle.tnef_writer.proofs.write_lists.table_size.Given as goal

abbrev pub invariant-loop-k : goal.invariant-loop-k
invariant-loop-k g l = (names : List Name) → l.size ≡ capped (4 + length (flat_map (list_alone names) (take l.k l.recipients)))
