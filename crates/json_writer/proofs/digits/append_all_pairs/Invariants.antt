use Rattle.carrier_io.specs.Pieces.{joined}
use Rattle.json_model.specs.Digits.{hex}
use Rattle.json_writer.proofs.Counted.{SoFar}
use Rattle.json_writer.proofs.digits.append_all_pairs.Given as goal

abbrev pub invariant-loop-k : goal.invariant-loop-k
invariant-loop-k g l = SoFar (g.W.Sink.held l.initial.sink) (g.W.Sink.held l.sink) (g.W.Sink.faults l.initial.sink) (g.W.Sink.faults l.sink) l.initial.count l.count (hex (joined (g.B.Blob.part l.blob) l.k))
