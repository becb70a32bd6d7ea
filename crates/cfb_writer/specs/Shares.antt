-- The streams of the mini stream, and those with sectors of their own.
use Rattle.std.specs.Prelude.{ℕ, List, [], Bool, filter, map, if◌then◌else◌}
use Rattle.carrier_model.specs.Layout.{Slot, is_short, is_long, pieces, filled, all_pieces}
use Rattle.cfb_writer.specs.declared.streams.Share.{Share}
use Rattle.cfb_writer.specs.declared.streams.Share.TheVariants.{Short, Long}

abbrev pub is_of : Share → List ℕ → Bool
is_of Short = is_short
is_of Long = is_long

abbrev pub streams_of : Share → List Slot → List (List ℕ)
streams_of share slots = filter (is_of share) (map (λ s. s.bytes) slots)

-- the bytes of their pieces, where sectors have so many
abbrev pub size_of : Share → ℕ → ℕ
size_of Short sector = 64
size_of Long sector = sector

-- the pieces of a stream, if it is one of them, and of all
abbrev pub share_pieces : Share → ℕ → List ℕ → ℕ
share_pieces share sector x = if is_of share x then pieces (size_of share sector) x else 0

abbrev pub share_total : Share → ℕ → List Slot → ℕ
share_total share sector slots = all_pieces (size_of share sector) (streams_of share slots)

-- its bytes with zeros up to whole pieces, if it is one of them
abbrev pub share_bytes : Share → ℕ → List ℕ → List ℕ
share_bytes share sector x = if is_of share x then filled (size_of share sector) x else []
