use Rattle.std.proofs.Common.{◌≡◌, ◌+◌, ◌%◌, map}
use Rattle.std.specs.List.{range_with_len}
use Rattle.tree_samples.proofs.parts.data.Given as goal

abbrev pub invariant-loop-place : goal.invariant-loop-place
invariant-loop-place l = l.bytes.items ≡ map (λ j. (l.number + j) % 251) (range_with_len 0 l.place)
