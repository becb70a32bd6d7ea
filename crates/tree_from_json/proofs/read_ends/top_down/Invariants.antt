use Rattle.std.proofs.Common.{◌≡◌, ◌-◌, drop, length, reverse}
use Rattle.tree_from_json.proofs.read_ends.top_down.Given as goal

abbrev pub invariant-loop-k : goal.invariant-loop-k
invariant-loop-k l = l.path ≡ reverse (drop (length l.steps - l.k) l.steps)
