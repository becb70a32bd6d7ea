use Rattle.std.specs.Prelude.{replicate}
use Rattle.carrier_io.proofs.Going.{Going}
use Rattle.carrier_io.proofs.summing.append_zeros.Given as goal

abbrev pub decreases-loop-left : goal.decreases-loop-left
decreases-loop-left g l = l.left

abbrev pub invariant-loop-left : goal.invariant-loop-left
invariant-loop-left g l = Going (g.W.Sink.held l.initial.sink) (g.W.Sink.held l.sink) (g.W.Sink.faults l.initial.sink) (g.W.Sink.faults l.sink) l.sum (replicate l.count 0) (replicate l.left 0)
