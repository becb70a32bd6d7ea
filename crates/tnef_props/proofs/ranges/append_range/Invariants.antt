use Rattle.std.proofs.Common.{Ok, take}
use Rattle.carrier_io.specs.declared.failures.Failed.{Failed}
use Rattle.tnef_model.specs.TnefCanonical.{props_bytes}
use Rattle.tnef_props.specs.Named.{between}
use Rattle.carrier_io.specs.Summed.{Sums}
use Rattle.tnef_props.proofs.ranges.append_range.Given as goal

abbrev pub invariant-loop-k : goal.invariant-loop-k
invariant-loop-k g l = Sums {E = Failed} (g.W.Sink.held l.initial.sink) (g.W.Sink.held l.sink) (g.W.Sink.faults l.initial.sink) (g.W.Sink.faults l.sink) (Ok l.sum) (props_bytes l.names (take l.k (between l.from l.to l.props)))
