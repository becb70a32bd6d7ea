use Rattle.std.proofs.Common.{drop}
use Rattle.text_model.specs.ValueTexts.{with_commas}
use Rattle.prop_values.specs.Meaning.{value_of}
use Rattle.tree_texts.specs.Elements.{elements_of}
use Rattle.tree_texts.proofs.Lists.{texts_from}
use Rattle.tree_texts.proofs.Partly.{Partly}
use Rattle.tree_texts.proofs.elements.write_elements.Given as goal

abbrev pub invariant-loop-k : goal.invariant-loop-k
invariant-loop-k g l = Partly (g.W.Sink.held l.initial.sink) (g.W.Sink.held l.sink) (g.W.Sink.faults l.initial.sink) (g.W.Sink.faults l.sink) (with_commas (elements_of (value_of g.B.Blob.bytes l.value))) (texts_from l.k (drop l.k (elements_of (value_of g.B.Blob.bytes l.value))))
