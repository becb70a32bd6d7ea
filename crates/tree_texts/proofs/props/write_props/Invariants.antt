use Rattle.std.proofs.Common.{drop}
use Rattle.text_model.specs.TreeTexts.{prop_lines}
use Rattle.tree_texts.proofs.Partly.{Partly}
use Rattle.tree_texts.proofs.props.write_props.Given as goal

abbrev pub invariant-loop-k : goal.invariant-loop-k
invariant-loop-k g l = Partly (g.W.Sink.held l.initial.sink) (g.W.Sink.held l.sink) (g.W.Sink.faults l.initial.sink) (g.W.Sink.faults l.sink) (prop_lines l.indent l.props) (prop_lines l.indent (drop l.k l.props))
