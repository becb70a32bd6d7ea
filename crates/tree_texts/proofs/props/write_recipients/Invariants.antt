use Rattle.std.proofs.Common.{drop}
use Rattle.text_model.specs.TreeTexts.{recipient_lines}
use Rattle.tree_texts.proofs.Partly.{Partly}
use Rattle.tree_texts.proofs.props.write_recipients.Given as goal

abbrev pub invariant-loop-k : goal.invariant-loop-k
invariant-loop-k g l = Partly (g.W.Sink.held l.initial.sink) (g.W.Sink.held l.sink) (g.W.Sink.faults l.initial.sink) (g.W.Sink.faults l.sink) (recipient_lines l.indent 0 l.recipients) (recipient_lines l.indent l.k (drop l.k l.recipients))
