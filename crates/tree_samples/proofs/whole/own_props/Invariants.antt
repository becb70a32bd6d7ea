use Rattle.std.proofs.Common.{◌≡◌}
use Rattle.tree_samples.proofs.Made.{own_of}
use Rattle.tree_samples.proofs.whole.own_props.Given as goal

-- three properties, and so many named ones
abbrev pub invariant-loop-k : goal.invariant-loop-k
invariant-loop-k l = l.props.props ≡ own_of l.number l.k
