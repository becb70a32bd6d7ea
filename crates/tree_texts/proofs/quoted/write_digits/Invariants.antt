use Rattle.std.proofs.Common.{drop}
use Rattle.std.specs.List.{flat_map}
use Rattle.carrier_model.specs.KeyTexts.{hex_digits, lower}
use Rattle.tree_texts.proofs.Partly.{Partly}
use Rattle.tree_texts.proofs.quoted.write_digits.Given as goal

abbrev pub invariant-loop-byte : goal.invariant-loop-byte
invariant-loop-byte g l = Partly (g.W.Sink.held l.initial.sink) (g.W.Sink.held l.sink) (g.W.Sink.faults l.initial.sink) (g.W.Sink.faults l.sink) (flat_map (hex_digits lower 2) l.bytes) (flat_map (hex_digits lower 2) (drop l.byte-index l.bytes))
