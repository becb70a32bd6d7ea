-- A list that is kept in chunks.
use Rattle.std.specs.Prelude.{List, ◌++◌}
use Rattle.std.specs.List.{flat_map}
use Rattle.tree_edit.specs.declared.chunked_list.ChunkedList.{ChunkedList}

abbrev pub listed : {T : Type 0} → ChunkedList T → List T
listed chunks = flat_map (λ chunk. chunk.items) chunks.full.items ++ chunks.last.items
