use Rattle.std.proofs.Common.{arith}
use Rattle.tree_from_json.proofs.InOrder.{last_tested}
use Rattle.tree_from_json.proofs.read_props.comes_after.Goals as goal

pub returns : goal.returns
returns c = last_tested c.args.before.now _ _ c.args.prop.now _ _ c.get.ensures (omega (arith, c.if-len-eq0.false, c.len.ensures, c.len-2.ensures)) c.order.ensures.order c.is_lt.ensures
