-- Numbers and sums in bytes.
use Rattle.std.specs.Prelude.{ℕ, ◌%◌, ◌<◌, List, take, sum, slice_index, ◌+◌, ◌*◌, [], ◌∷◌, ◌-◌, ◌==◌, if◌then◌else◌}
use Rattle.std.specs.Int.{w16, w32, to_le_bytes, from_le_bytes, w64}
use Rattle.std.specs.List.{flat_map}

abbrev pub AllBytes : List ℕ → Type 0
AllBytes bytes = (i : ℕ) → slice_index bytes i < 256

-- the little-endian number at the front
abbrev pub number16 : List ℕ → ℕ
number16 bytes = from_le_bytes w16 (take 2 bytes)

abbrev pub number32 : List ℕ → ℕ
number32 bytes = from_le_bytes w32 (take 4 bytes)

abbrev pub le16 : ℕ → List ℕ
le16 n = to_le_bytes w16 n

abbrev pub le32 : ℕ → List ℕ
le32 n = to_le_bytes w32 n

abbrev pub sum16 : List ℕ → ℕ
sum16 bytes = sum bytes % 65536

-- the most bytes of an input and of an output
abbrev pub MOST_BYTES : ℕ
MOST_BYTES = 268435456

-- the number that bytes are, the lowest first
abbrev pub le_number : List ℕ → ℕ
le_number [] = 0
le_number (b ∷ more) = b + 256 * le_number more

-- what is missing to a multiple of four
abbrev pub pad4 : ℕ → ℕ
pad4 n = (4 - n % 4) % 4

-- 16-bit units, the low byte first
abbrev pub units_of : List ℕ → List ℕ
units_of [] = []
units_of (low ∷ []) = []
units_of (low ∷ high ∷ more) = (low + 256 * high) ∷ units_of more

-- a number of 2, 4 or 8 bytes, the lowest first
abbrev pub le_bytes : ℕ → ℕ → List ℕ
le_bytes width n = if width == 2 then le16 n else (if width == 4 then le32 n else to_le_bytes w64 n)

-- the bytes of 16-bit units
abbrev pub unit_bytes : List ℕ → List ℕ
unit_bytes = flat_map le16
