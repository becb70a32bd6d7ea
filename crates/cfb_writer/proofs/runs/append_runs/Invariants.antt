use Rattle.std.proofs.Common.{drop}
use Rattle.std.specs.List.{flat_map}
use Rattle.carrier_model.specs.Layout.{words_bytes}
use Rattle.cfb_writer.specs.Runs.{words_of}
use Rattle.cfb_writer.proofs.Going.{Going}
use Rattle.cfb_writer.proofs.runs.append_runs.Given as goal

abbrev pub invariant-loop-k : goal.invariant-loop-k
invariant-loop-k g l = Going (g.W.Sink.held l.initial.sink) (g.W.Sink.held l.sink) (g.W.Sink.faults l.initial.sink) (g.W.Sink.faults l.sink) l.sum (words_bytes (flat_map (λ r. words_of r.0 r.1) l.runs)) (words_bytes (flat_map (λ r. words_of r.0 r.1) (drop l.k l.runs)))
