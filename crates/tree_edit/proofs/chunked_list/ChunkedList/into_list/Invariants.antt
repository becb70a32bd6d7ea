use Rattle.std.proofs.Common.{◌≡◌}
use Rattle.std.specs.List.{flat_map}
use Rattle.tree_edit.proofs.chunked_list.ChunkedList.into_list.Given as goal

abbrev pub invariant-loop-chunk : goal.invariant-loop-chunk
invariant-loop-chunk g l = l.all.items ≡ flat_map (λ chunk. chunk.items) l.yielded
