use Rattle.std.proofs.Common.{◌≡◌}
use Rattle.prop_values.proofs.prop_list.Props.into_held.Given as goal

abbrev pub invariant-loop-prop : goal.invariant-loop-prop
invariant-loop-prop g l = l.list.items ≡ l.yielded
