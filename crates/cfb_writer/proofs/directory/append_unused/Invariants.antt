use Rattle.std.proofs.Common.{◌-◌}
use Rattle.std.specs.List.{flat_map, range_with_len}
use Rattle.carrier_model.specs.Layout.{unused_slot}
use Rattle.cfb_writer.proofs.Going.{Going}
use Rattle.cfb_writer.proofs.directory.append_unused.Given as goal

abbrev pub invariant-loop-k : goal.invariant-loop-k
invariant-loop-k g l = Going (g.W.Sink.held l.initial.sink) (g.W.Sink.held l.sink) (g.W.Sink.faults l.initial.sink) (g.W.Sink.faults l.sink) l.sum (flat_map (λ _. unused_slot) (range_with_len 0 l.count)) (flat_map (λ _. unused_slot) (range_with_len l._k (l.count - l._k)))
