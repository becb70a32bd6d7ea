use Rattle.std.proofs.Common.{◌≡◌, map}
use Rattle.tree_edit.specs.Opened.{props_of}
use Rattle.tree_edit.proofs.open_recipients.close_rows.Given as goal

abbrev pub invariant-loop-props : goal.invariant-loop-props
invariant-loop-props g l = l.recipients ≡ map props_of l.yielded
