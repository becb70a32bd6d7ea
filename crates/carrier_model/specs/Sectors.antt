-- The sectors of a compound file (MS-CFB 2.1, 2.2, 2.3). The sector size z is 512 bytes, or 4096.
use Rattle.std.specs.Prelude.{ℕ, ◌+◌, ◌-◌, ◌*◌, ◌/◌, ◌%◌, List, get_or, length, map, drop, Bool, ◌||◌, nat_eq}
use Rattle.std.specs.List.{range_with_len, flat_map}
use Rattle.carrier_model.specs.Bytes.{number16, number32}

abbrev pub is_size : ℕ → Bool
is_size z = nat_eq z 512 || nat_eq z 4096

-- the little-endian numbers at a place
unfoldable pub u16_of : List ℕ → ℕ → ℕ
u16_of b at = number16 (drop at b)

unfoldable pub u32_of : List ℕ → ℕ → ℕ
u32_of b at = number32 (drop at b)

-- where a sector begins: the header stands before the first, in the room of one
abbrev pub sector_start : ℕ → ℕ → ℕ
sector_start z n = (n + 1) * z

-- how many sectors the file has; the last may be cut
abbrev pub sector_count : ℕ → List ℕ → ℕ
sector_count z b = (length b - z + (z - 1)) / z

-- how many of them are whole
abbrev pub whole_count : ℕ → List ℕ → ℕ
whole_count z b = (length b - z) / z

-- the words of a sector
abbrev pub sector_words : ℕ → List ℕ → ℕ → List ℕ
sector_words z b n = map (λ i. u32_of b (sector_start z n + 4 * i)) (range_with_len 0 (z / 4))

-- a table: the words of its sectors, one after another
abbrev pub table_words : ℕ → List ℕ → List ℕ → List ℕ
table_words z b sectors = flat_map (sector_words z b) sectors

-- where the word of a sector lies, in a table that these sectors hold
unfoldable pub word_offset : ℕ → List ℕ → ℕ → ℕ
word_offset z sectors n = sector_start z (get_or sectors (n / (z / 4)) 0) + 4 * (n % (z / 4))
