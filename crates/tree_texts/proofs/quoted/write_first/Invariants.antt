use Rattle.std.proofs.Common.{◌-◌, take}
use Rattle.std.specs.List.{flat_map}
use Rattle.carrier_model.specs.KeyTexts.{hex_digits, lower}
use Rattle.tree_texts.proofs.Partly.{Partly}
use Rattle.tree_texts.proofs.Pieces.{pieces_from}
use Rattle.tree_texts.proofs.quoted.write_first.Given as goal

abbrev pub invariant-loop-k : goal.invariant-loop-k
invariant-loop-k g l = Partly (g.W.Sink.held l.initial.sink) (g.W.Sink.held l.sink) (g.W.Sink.faults l.initial.sink) (g.W.Sink.faults l.sink) (flat_map (hex_digits lower 2) (take l.most (g.B.Blob.bytes l.blob))) (flat_map (hex_digits lower 2) (take l.left (pieces_from (g.B.Blob.part l.blob) l.k (g.B.Blob.count l.blob - l.k))))
