use Rattle.std.proofs.Common.{◌≡◌, drop}
use Rattle.tree_texts.specs.Halves.{kept_behind}
use Rattle.tree_texts.proofs.Partly.{Partly}
use Rattle.tree_texts.proofs.Pieces.{text_behind}
use Rattle.tree_texts.proofs.quoted.write_halves.Given as goal

abbrev pub invariant-loop-byte : goal.invariant-loop-byte
invariant-loop-byte g l = record {
  partly : Partly (g.W.Sink.held l.initial.sink) (g.W.Sink.held l.sink) (g.W.Sink.faults l.initial.sink) (g.W.Sink.faults l.sink) (text_behind l.initial.low l.bytes) (text_behind l.low (drop l.byte-index l.bytes));
  low : kept_behind l.low (drop l.byte-index l.bytes) ≡ kept_behind l.initial.low l.bytes;
}
