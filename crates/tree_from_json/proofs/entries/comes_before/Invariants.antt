use Rattle.std.proofs.Common.{◌≡◌}
use Rattle.tree_from_json.proofs.Paths.{before_from}
use Rattle.tree_from_json.proofs.entries.comes_before.Given as goal

abbrev pub invariant-loop-k : goal.invariant-loop-k
invariant-loop-k l = before_from l.one l.other 0 ≡ before_from l.one l.other l.k
