-- The bytes of a view, and where they lie.
use Rattle.std.specs.Prelude.{ℕ, zero, suc, ◌+◌, ◌-◌, ◌*◌, List, get_or, take, drop, min}
use Rattle.std.specs.Int.{div_ceil}
use Rattle.carrier_model.specs.Streams.{Stream, places_of, content}
use Rattle.cfb_sectors.specs.declared.view.StreamView.{StreamView}

-- where each byte lies in the input
abbrev pub places : StreamView → List ℕ
places v = places_of v.each v.starts.items v.len

abbrev pub bytes_of : StreamView → List ℕ
bytes_of v = content v.file.now (places v)

abbrev pub stream : StreamView → Stream
stream v = record { bytes = bytes_of v; places = places v }

-- how many pieces there are
abbrev pub piece_count : StreamView → ℕ
piece_count v = div_ceil v.len v.each

-- the piece of this index; the last one ends with the stream
abbrev pub piece_of : StreamView → ℕ → List ℕ
piece_of v k = take (min v.each (v.len - v.each * k)) (drop (get_or v.starts.items k 0) v.file.now)

-- the little-endian number of so many bytes
abbrev pub number_in : List ℕ → ℕ → ℕ → ℕ
number_in bytes at zero = 0
number_in bytes at (suc width) = get_or bytes at 0 + 256 * number_in bytes (at + 1) width
