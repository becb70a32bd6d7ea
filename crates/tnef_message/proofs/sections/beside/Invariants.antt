use Rattle.std.proofs.Common.{◌≡◌}
use Rattle.std.specs.Prelude.{filter}
use Rattle.tnef_message.specs.Sections.{stays}
use Rattle.tnef_message.proofs.sections.beside.Given as goal

abbrev pub invariant-loop-prop : goal.invariant-loop-prop
invariant-loop-prop l = l.kept.items ≡ filter (stays l.embeds l.list) l.yielded
