-- The texts of values, as ASCII characters: numbers by their kind, texts in quotes, bytes by their number and the first
-- of them. The kinds are those of MS-OXCDATA, section 2.11.1.
use Rattle.std.specs.Prelude.{ℕ, ◌-◌, ◌*◌, ◌^◌, ◌==◌, ◌||◌, nat_lt, List, [], ◌∷◌, ◌++◌, length, take, map, if◌then◌else◌, codes, decimal}
use Rattle.std.specs.List.{flat_map}
use Rattle.carrier_model.specs.KeyTexts.{lower, upper, hex_digits, guid_text, is_plain, quoted_text}
use Rattle.carrier_model.specs.Bytes.{units_of}
use Rattle.carrier_model.specs.Values.{Value, number, guid, bytes, numbers, guids, parts, number_widths, width_in}

-- ---- one element

-- a number of so many bytes that is negative where its highest bit is set
abbrev pub signed_text : ℕ → ℕ → List ℕ
signed_text width n = if nat_lt n (2 ^ (8 * width - 1)) then decimal n else codes "-" ++ decimal (2 ^ (8 * width) - n)

abbrev pub truth_text : ℕ → List ℕ
truth_text bit = if bit == 0 then codes "false" else codes "true"

-- a Boolean as a word, a Time without a sign, floating values and error codes as their bits, other numbers with a sign
abbrev pub number_text : ℕ → ℕ → List ℕ
number_text kind bits =
    if kind == 0x000B then truth_text bits
    else if kind == 0x0040 then decimal bits
    else if (kind == 0x0004) || (kind == 0x000A) then hex_digits upper 8 bits
    else if (kind == 0x0005) || (kind == 0x0007) then hex_digits upper 16 bits
    else signed_text (width_in number_widths kind) bits

-- a byte of a text of 8-bit characters
abbrev pub character_text : ℕ → List ℕ
character_text byte = if is_plain byte then byte ∷ [] else 0x5C ∷ hex_digits upper 2 byte

abbrev pub quoted_bytes : List ℕ → List ℕ
quoted_bytes x = 0x22 ∷ flat_map character_text x ++ 0x22 ∷ []

-- how many of a Binary's bytes are shown
abbrev pub SHOWN : ℕ
SHOWN = 32

abbrev pub front_text : List ℕ → List ℕ
front_text [] = []
front_text (b ∷ more) = codes " " ++ flat_map (hex_digits lower 2) (b ∷ more)

-- how many bytes, and the first of them
abbrev pub binary_text : List ℕ → List ℕ
binary_text x = decimal (length x) ++ (codes " bytes" ++ front_text (take SHOWN x))

abbrev pub bytes_text : ℕ → List ℕ → List ℕ
bytes_text kind x =
    if kind == 0x001E then quoted_bytes x
    else if kind == 0x001F then quoted_text (units_of x)
    else binary_text x

-- ---- values

-- texts with a comma and a space between them
abbrev pub with_commas : List (List ℕ) → List ℕ
with_commas [] = []
with_commas (one ∷ []) = one
with_commas (one ∷ next ∷ more) = one ++ (codes ", " ++ with_commas (next ∷ more))

abbrev pub in_brackets : List (List ℕ) → List ℕ
in_brackets texts = codes "[" ++ (with_commas texts ++ codes "]")

abbrev pub value_text : Value → List ℕ
value_text (number kind bits) = number_text kind bits
value_text (guid set) = guid_text set
value_text (bytes kind x) = bytes_text kind x
value_text (numbers kind list) = in_brackets (map (number_text (kind - 0x1000)) list)
value_text (guids list) = in_brackets (map guid_text list)
value_text (parts kind list) = in_brackets (map (bytes_text (kind - 0x1000)) list)
