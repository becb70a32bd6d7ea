-- The parts of a value as it is written.
use Rattle.std.specs.Prelude.{◌≡◌, ◌⊎◌, ℕ, ◌-◌, ◌<◌, ◌^◌, ◌++◌, Bool, true, false, List, [], length, replicate, Option, Some, None}
use Rattle.std.specs.Int.{w64, to_le_bytes}
use Rattle.std.specs.List.{flat_map}
use Rattle.carrier_model.specs.Bytes.{le32, le_bytes}
use Rattle.tnef_model.specs.TnefCanonical.{zero_padded, with_size, text_bytes, object_bytes}
use Rattle.carrier_model.specs.Values.{Value, number, guid, bytes, numbers, guids, parts, width_in, number_widths, numbers_widths}

-- the bytes of a number: eight, or fewer
abbrev pub HasWidth : Bool → ℕ → Type 0
HasWidth true width = width ≡ 8
HasWidth false width = (width ≡ 2) ⊎ (width ≡ 4)

-- a number that its bytes can hold
abbrev pub Fits : Bool → ℕ → Type 0
Fits true n = n < 2 ^ 64
Fits false n = n < 2 ^ 32

-- a number with its padding
abbrev pub number_field : Bool → ℕ → List ℕ
number_field true n = to_le_bytes w64 n
number_field false n = le32 n

-- a text with a null of so many bytes
abbrev pub text_field : ℕ → List ℕ → List ℕ
text_field null x = with_size (x ++ replicate null 0)

-- how many elements a value says that it has
abbrev pub counted : Value → Option ℕ
counted (number kind bits) = None
counted (guid set) = None
counted (bytes kind x) = Some 1
counted (numbers kind list) = Some (length list)
counted (guids list) = Some (length list)
counted (parts kind list) = Some (length list)

abbrev pub count_field : Option ℕ → List ℕ
count_field None = []
count_field (Some n) = le32 n

-- the elements
abbrev pub content_field : Value → List ℕ
content_field (number kind bits) = zero_padded (le_bytes (width_in number_widths kind) bits)
content_field (guid set) = set
content_field (bytes kind x) = text_bytes kind x
content_field (numbers kind list) = flat_map (λ n. zero_padded (le_bytes (width_in numbers_widths kind) n)) list
content_field (guids list) = flat_map (λ g. g) list
content_field (parts kind list) = flat_map (text_bytes (kind - 0x1000)) list

-- how many bytes an Object has, where there is one
abbrev pub object_length : Option (List ℕ) → ℕ
object_length None = 0
object_length (Some x) = length (object_bytes x)
