use Rattle.std.proofs.Common.{take}
use Rattle.std.specs.List.{flat_map}
use Rattle.carrier_model.specs.KeyTexts.{unit_text}
use Rattle.carrier_io.proofs.Known.{Did}
use Rattle.prop_names.proofs.key_texts.print_units.Given as goal

abbrev pub invariant-loop-unit : goal.invariant-loop-unit
invariant-loop-unit g l = Did (g.W.Sink.held l.initial.sink) (g.W.Sink.held l.sink) (g.W.Sink.faults l.initial.sink) (g.W.Sink.faults l.sink) (flat_map unit_text (take l.unit-index l.units))
