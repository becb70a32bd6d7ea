use Rattle.std.proofs.Common.{◌∙◌, rules}
use Rattle.tree_samples.proofs.Settled.{settled, no_double}
use Rattle.prop_values.specs.Arrivals.{RiseAtFront}
use Rattle.tree_samples.proofs.sorted.in_order.Goals as goal

pub unreachable-requires : goal.unreachable-requires
unreachable-requires c = let w : RiseAtFront c.args.arrivals.props c.args.arrivals.marks = search rules in no_double c.args.arrivals c.in-Err-Duplicate.field-0-0 w c.requires (rw c.in-Err-Duplicate.field-0-is at c.in-Err-Duplicate.ensures.refused)

pub returns-in-Ok : goal.returns-in-Ok
returns-in-Ok c = c.in-Ok.ensures.settled.0 ∙ settled c.args.arrivals.props c.requires
