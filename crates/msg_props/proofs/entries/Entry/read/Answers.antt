use Rattle.std.proofs.Common.{arith}
use Rattle.msg_props.proofs.PieceForms.{view_small}
use Rattle.msg_props.proofs.entries.Entry.read.Goals as goal

pub overflow_add-at : goal.overflow_add-at
overflow_add-at c = omega (arith, c.requires, view_small c.args.view.now)
