use Rattle.carrier_io.specs.Pieces.{joined}
use Rattle.json_writer.proofs.Decoding.{Taken}
use Rattle.json_writer.proofs.texts.append_pieces.Given as goal

abbrev pub invariant-loop-k : goal.invariant-loop-k
invariant-loop-k g l = Taken (g.W.Sink.held l.initial.sink) (g.W.Sink.held l.sink) (g.W.Sink.faults l.initial.sink) (g.W.Sink.faults l.sink) l.initial.count l.count l.initial.decoder l.decoder (joined (g.B.Blob.part l.text) l.k)
