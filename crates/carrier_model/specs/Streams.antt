-- Streams of a compound file, by the places of their bytes (MS-CFB 2.3, 2.4, 3.4).
use Rattle.std.specs.Prelude.{ℕ, ◌+◌, ◌*◌, ◌/◌, ◌%◌, List, get_or, map, Bool, ◌||◌, nat_eq, nat_lt}
use Rattle.std.specs.List.{range_with_len, list_all}
use Rattle.carrier_model.specs.Sectors.{is_size, sector_start}

-- a stream's bytes, and where each lies in the file
pub record Stream : Type 0 where
  pub bytes : List ℕ
  pub places : List ℕ

-- pieces are sectors, or mini sectors of 64 bytes
abbrev pub is_piece : ℕ → Bool
is_piece each = nat_eq each 64 || is_size each

-- Where the k-th byte lies, of pieces of so many bytes that begin at these places.
abbrev pub place_in : ℕ → List ℕ → ℕ → ℕ
place_in each starts k = get_or starts (k / each) 0 + k % each

-- where the first so many bytes lie
abbrev pub places_of : ℕ → List ℕ → ℕ → List ℕ
places_of each starts size = map (place_in each starts) (range_with_len 0 size)

-- where the sectors of a chain begin
abbrev pub starts_of : ℕ → List ℕ → List ℕ
starts_of z chain = map (sector_start z) chain

-- where mini sectors of 64 bytes begin in the mini stream
abbrev pub mini_offsets : List ℕ → List ℕ
mini_offsets chain = map (λ m. 64 * m) chain

-- where they begin in the file, for a mini stream whose sectors begin at these places
abbrev pub mini_starts : ℕ → List ℕ → List ℕ → List ℕ
mini_starts z starts chain = map (place_in z starts) (mini_offsets chain)

-- whether all of these places are below a length
abbrev pub lie_below : ℕ → List ℕ → Bool
lie_below len places = list_all (λ p. nat_lt p len) places

-- the bytes at these places
abbrev pub content : List ℕ → List ℕ → List ℕ
content b places = map (λ p. get_or b p 0) places

abbrev pub stream_at : List ℕ → List ℕ → Stream
stream_at b places = record { bytes = content b places; places = places }
