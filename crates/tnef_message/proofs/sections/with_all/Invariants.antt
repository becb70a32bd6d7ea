use Rattle.std.proofs.Common.{◌≡◌}
use Rattle.carrier_model.specs.Sorted.{with_elements}
use Rattle.carrier_model.specs.Values.{prop_cmp}
use Rattle.tnef_message.proofs.sections.with_all.Given as goal

abbrev pub invariant-loop-prop : goal.invariant-loop-prop
invariant-loop-prop l = l.list ≡ with_elements prop_cmp l.initial.list l.yielded
