use Rattle.std.proofs.Common.{◌-◌}
use Rattle.std.specs.List.{flat_map}
use Rattle.text_model.specs.ValueTexts.{character_text}
use Rattle.tree_texts.proofs.Partly.{Partly}
use Rattle.tree_texts.proofs.Pieces.{pieces_from}
use Rattle.tree_texts.proofs.quoted.write_all_characters.Given as goal

abbrev pub invariant-loop-k : goal.invariant-loop-k
invariant-loop-k g l = Partly (g.W.Sink.held l.initial.sink) (g.W.Sink.held l.sink) (g.W.Sink.faults l.initial.sink) (g.W.Sink.faults l.sink) (flat_map character_text (g.B.Blob.bytes l.text)) (flat_map character_text (pieces_from (g.B.Blob.part l.text) l.k (g.B.Blob.count l.text - l.k)))
