use Rattle.std.proofs.Common.{◌-◌, None}
use Rattle.tree_texts.proofs.Partly.{Partly}
use Rattle.tree_texts.proofs.Pieces.{pieces_from, text_behind}
use Rattle.tree_texts.proofs.quoted.write_units.Given as goal

abbrev pub invariant-loop-k : goal.invariant-loop-k
invariant-loop-k g l = Partly (g.W.Sink.held l.initial.sink) (g.W.Sink.held l.sink) (g.W.Sink.faults l.initial.sink) (g.W.Sink.faults l.sink) (text_behind None (g.B.Blob.bytes l.text)) (text_behind l.low (pieces_from (g.B.Blob.part l.text) l.k (g.B.Blob.count l.text - l.k)))
