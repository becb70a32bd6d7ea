use Rattle.std.proofs.Common.{drop}
use Rattle.std.specs.List.{flat_map}
use Rattle.text_model.specs.TreeTexts.{passed_line}
use Rattle.tree_texts.proofs.Partly.{Partly}
use Rattle.tree_texts.proofs.check.write_all_passed.Given as goal

abbrev pub invariant-loop-k : goal.invariant-loop-k
invariant-loop-k g l = Partly (g.W.Sink.held l.initial.sink) (g.W.Sink.held l.sink) (g.W.Sink.faults l.initial.sink) (g.W.Sink.faults l.sink) (flat_map passed_line l.passed) (flat_map passed_line (drop l.k l.passed))
