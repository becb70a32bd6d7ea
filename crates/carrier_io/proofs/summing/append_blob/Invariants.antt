use Rattle.std.proofs.Common.{Ok}
use Rattle.carrier_io.specs.Pieces.{joined}
use Rattle.carrier_io.specs.declared.failures.Failed.{Failed}
use Rattle.carrier_io.specs.Summed.{Sums}
use Rattle.carrier_io.proofs.summing.append_blob.Given as goal

abbrev pub invariant-loop-k : goal.invariant-loop-k
invariant-loop-k g l = Sums {E = Failed} (g.W.Sink.held l.initial.sink) (g.W.Sink.held l.sink) (g.W.Sink.faults l.initial.sink) (g.W.Sink.faults l.sink) (Ok l.sum) (joined (g.B.Blob.part l.blob) l.k)
