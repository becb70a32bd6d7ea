-- How much stands under a name in a store.
use Rattle.std.specs.Prelude.{ℕ, length}
use Rattle.carrier_model.specs.FileTrees as trees

abbrev pub streams_at : trees.Member → ℕ
streams_at (trees.bytes_at x) = 1
streams_at (trees.store_at inner) = trees.stream_count inner.members

abbrev pub bytes_at : trees.Member → ℕ
bytes_at (trees.bytes_at x) = length x
bytes_at (trees.store_at inner) = trees.byte_count inner.members
