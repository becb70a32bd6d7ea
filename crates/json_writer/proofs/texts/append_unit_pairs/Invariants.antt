use Rattle.std.proofs.Common.{take}
use Rattle.carrier_model.specs.Bytes.{unit_bytes}
use Rattle.json_model.specs.Digits.{hex}
use Rattle.json_writer.proofs.Counted.{SoFar}
use Rattle.json_writer.proofs.texts.append_unit_pairs.Given as goal

abbrev pub invariant-loop-unit : goal.invariant-loop-unit
invariant-loop-unit g l = SoFar (g.W.Sink.held l.initial.sink) (g.W.Sink.held l.sink) (g.W.Sink.faults l.initial.sink) (g.W.Sink.faults l.sink) l.initial.count l.count (hex (unit_bytes (take l.unit-index l.units)))
