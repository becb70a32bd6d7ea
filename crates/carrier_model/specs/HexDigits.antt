-- What hexadecimal digits say. The letters from ten on are lower-case or upper-case ones.
use Rattle.std.specs.Prelude.{ℕ, ◌+◌, ◌*◌, ◌-◌, ◌%◌, ◌==◌, ◌&&◌, ◌||◌, nat_le, nat_lt, Bool, if◌then◌else◌, List, [], ◌∷◌, length, Option, Some, None}
use Rattle.std.specs.List.{list_all}
use Rattle.carrier_model.specs.KeyTexts.{lower, upper}

-- a digit in the case whose ten is this letter
abbrev pub is_digit : (letter c : ℕ) → Bool
is_digit letter c = (nat_le 0x30 c && nat_le c 0x39) || (nat_le letter c && nat_le c (letter + 5))

abbrev pub digit_of : (letter c : ℕ) → ℕ
digit_of letter c = if nat_lt c letter then c - 0x30 else c - letter + 10

-- the number that upper-case digits say behind others that say n
abbrev pub hex_behind : ℕ → List ℕ → ℕ
hex_behind n [] = n
hex_behind n (c ∷ more) = hex_behind (16 * n + digit_of upper c) more

abbrev pub number_in : List ℕ → ℕ
number_in text = hex_behind 0 text

abbrev pub are_digits : (count : ℕ) → List ℕ → Bool
are_digits count text = list_all (is_digit upper) text && (length text == count)

-- the number of so many upper-case digits
abbrev pub number_of : (count : ℕ) → List ℕ → Option ℕ
number_of count text = if are_digits count text then Some (number_in text) else None

-- lower-case digits, two a byte
abbrev pub is_hex : List ℕ → Bool
is_hex text = list_all (is_digit lower) text && (length text % 2 == 0)

abbrev pub bytes_in : List ℕ → List ℕ
bytes_in [] = []
bytes_in (high ∷ []) = []
bytes_in (high ∷ low ∷ more) = (16 * digit_of lower high + digit_of lower low) ∷ bytes_in more

abbrev pub bytes_of : List ℕ → Option (List ℕ)
bytes_of text = if is_hex text then Some (bytes_in text) else None

-- the sixteen bytes of 32 digits
abbrev pub guid_of : List ℕ → Option (List ℕ)
guid_of text = if is_hex text && (length text == 32) then Some (bytes_in text) else None
