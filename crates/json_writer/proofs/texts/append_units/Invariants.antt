use Rattle.std.proofs.Common.{length}
use Rattle.carrier_model.specs.Bytes.{unit_bytes}
use Rattle.json_writer.proofs.Decoding.{Within}
use Rattle.json_writer.proofs.texts.append_units.Given as goal

abbrev pub invariant-loop-rest : goal.invariant-loop-rest
invariant-loop-rest g l = Within (g.W.Sink.held l.initial.sink) (g.W.Sink.held l.sink) (g.W.Sink.faults l.initial.sink) (g.W.Sink.faults l.sink) l.initial.count l.count l.initial.decoder l.decoder (unit_bytes l.units) (unit_bytes l.rest)

abbrev pub decreases-loop-rest : goal.decreases-loop-rest
decreases-loop-rest g l = length l.rest
