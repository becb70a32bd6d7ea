use Rattle.std.proofs.Common.{◌≡◌, ◌+◌, length, take}
use Rattle.std.specs.List.{flat_map}
use Rattle.tree_edit.proofs.chunked_list.ChunkedList.place.Given as goal

abbrev pub invariant-loop-chunk : goal.invariant-loop-chunk
invariant-loop-chunk g l = record {
  counted : l.at ≡ l.chunk-index;
  sum : length (flat_map (λ chunk. chunk.items) (take l.chunk-index l.self.full.items)) + l.left ≡ l.number;
}
