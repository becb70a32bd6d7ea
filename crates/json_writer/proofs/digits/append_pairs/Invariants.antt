use Rattle.std.proofs.Common.{length}
use Rattle.json_model.specs.Digits.{hex}
use Rattle.json_writer.proofs.Counted.{Partly}
use Rattle.json_writer.proofs.digits.append_pairs.Given as goal

abbrev pub invariant-loop-rest : goal.invariant-loop-rest
invariant-loop-rest g l = Partly (g.W.Sink.held l.initial.sink) (g.W.Sink.held l.sink) (g.W.Sink.faults l.initial.sink) (g.W.Sink.faults l.sink) l.initial.count l.count (hex l.bytes) (hex l.rest)

abbrev pub decreases-loop-rest : goal.decreases-loop-rest
decreases-loop-rest g l = length l.rest
