use Rattle.std.proofs.Common.{Ok, take}
use Rattle.carrier_io.specs.declared.failures.Failed.{Failed}
use Rattle.carrier_model.specs.Bytes.{unit_bytes}
use Rattle.carrier_io.specs.Summed.{Sums}
use Rattle.tnef_props.proofs.writing_keys.append_units.Given as goal

abbrev pub invariant-loop-k : goal.invariant-loop-k
invariant-loop-k g l = Sums {E = Failed} (g.W.Sink.held l.initial.sink) (g.W.Sink.held l.sink) (g.W.Sink.faults l.initial.sink) (g.W.Sink.faults l.sink) (Ok l.sum) (unit_bytes (take l.k l.units))
