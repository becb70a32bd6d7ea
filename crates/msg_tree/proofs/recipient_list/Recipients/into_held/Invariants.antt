use Rattle.std.proofs.Common.{◌≡◌}
use Rattle.msg_tree.proofs.recipient_list.Recipients.into_held.Given as goal

abbrev pub invariant-loop-props : goal.invariant-loop-props
invariant-loop-props g l = l.list.items ≡ l.yielded
