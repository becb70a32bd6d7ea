use Rattle.carrier_model.specs.Layout.{words_bytes}
use Rattle.cfb_writer.specs.Runs.{words_of, words_from}
use Rattle.cfb_writer.proofs.Going.{Going}
use Rattle.cfb_writer.proofs.runs.append_run.Given as goal

abbrev pub invariant-loop-k : goal.invariant-loop-k
invariant-loop-k g l = Going (g.W.Sink.held l.initial.sink) (g.W.Sink.held l.sink) (g.W.Sink.faults l.initial.sink) (g.W.Sink.faults l.sink) l.sum (words_bytes (words_of l.run l.count)) (words_bytes (words_from l.run l.count l.k))
