use Rattle.std.proofs.Common.{Ok, take}
use Rattle.std.specs.List.{flat_map}
use Rattle.carrier_io.specs.declared.failures.Failed.{Failed}
use Rattle.carrier_io.specs.Summed.{Sums}
use Rattle.tnef_writer.specs.Written.{list_alone}
use Rattle.tnef_writer.proofs.write_lists.append_lists.Given as goal

abbrev pub invariant-loop-k : goal.invariant-loop-k
invariant-loop-k g l = Sums {E = Failed} (g.W.Sink.held l.initial.sink) (g.W.Sink.held l.sink) (g.W.Sink.faults l.initial.sink) (g.W.Sink.faults l.sink) (Ok l.sum) (flat_map (list_alone l.names) (take l.k l.recipients))
