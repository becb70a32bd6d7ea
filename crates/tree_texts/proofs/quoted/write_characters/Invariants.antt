use Rattle.std.proofs.Common.{drop}
use Rattle.std.specs.List.{flat_map}
use Rattle.text_model.specs.ValueTexts.{character_text}
use Rattle.tree_texts.proofs.Partly.{Partly}
use Rattle.tree_texts.proofs.quoted.write_characters.Given as goal

abbrev pub invariant-loop-byte : goal.invariant-loop-byte
invariant-loop-byte g l = Partly (g.W.Sink.held l.initial.sink) (g.W.Sink.held l.sink) (g.W.Sink.faults l.initial.sink) (g.W.Sink.faults l.sink) (flat_map character_text l.bytes) (flat_map character_text (drop l.byte-index l.bytes))
