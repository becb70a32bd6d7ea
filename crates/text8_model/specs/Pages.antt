-- Code pages: which byte sequences each maps, and to which 16-bit units. The numbers are those of PidTagMessageCodepage
-- [MS-OXCMSG 2.2.1]; Windows-1252 is that of MS-UCODEREF, UTF-8 and UTF-16 are those of RFC 3629 and RFC 2781.
use Rattle.std.specs.Prelude.{◌≡◌, ℕ, ◌-◌, ◌&&◌, nat_lt, nat_le, if◌then◌else◌, List, [], ◌∷◌, slice_index_or, Option, Some, None}
use Rattle.std.specs.Char.{IsScalar, encode_utf8}
use Rattle.std.specs.Char.Escape.{encode_utf16}
use Rattle.carrier_model.specs.Lists.{looked_up}

pub data Page : Type 0 where
  windows_1252 : Page
  latin_1 : Page
  us_ascii : Page
  utf_8 : Page

-- the page of a number
abbrev pub page_of : ℕ → Option Page
page_of = looked_up ((1252, windows_1252) ∷ (28591, latin_1) ∷ (20127, us_ascii) ∷ (65001, utf_8) ∷ [])

-- what Windows-1252 has for the bytes 80 to 9F
abbrev pub windows_row : List (Option ℕ)
windows_row =
    Some 0x20AC ∷ None ∷ Some 0x201A ∷ Some 0x0192 ∷ Some 0x201E ∷ Some 0x2026 ∷ Some 0x2020 ∷ Some 0x2021 ∷
    Some 0x02C6 ∷ Some 0x2030 ∷ Some 0x0160 ∷ Some 0x2039 ∷ Some 0x0152 ∷ None ∷ Some 0x017D ∷ None ∷
    None ∷ Some 0x2018 ∷ Some 0x2019 ∷ Some 0x201C ∷ Some 0x201D ∷ Some 0x2022 ∷ Some 0x2013 ∷ Some 0x2014 ∷
    Some 0x02DC ∷ Some 0x2122 ∷ Some 0x0161 ∷ Some 0x203A ∷ Some 0x0153 ∷ None ∷ Some 0x017E ∷ Some 0x0178 ∷ []

-- The unit of a byte in the pages of single bytes.
abbrev pub windows_unit : ℕ → Option ℕ
windows_unit byte = if nat_le 0x80 byte && nat_lt byte 0xA0 then slice_index_or windows_row (byte - 0x80) None else Some byte

abbrev pub latin_unit : ℕ → Option ℕ
latin_unit byte = Some byte

abbrev pub ascii_unit : ℕ → Option ℕ
ascii_unit byte = if nat_lt byte 0x80 then Some byte else None

-- one byte and its one unit
abbrev pub IsByte : (ℕ → Option ℕ) → List ℕ → List ℕ → Type 0
IsByte unit_of x u = (byte : ℕ) × (unit : ℕ) × (unit_of byte ≡ Some unit) × (x ≡ byte ∷ []) × (u ≡ unit ∷ [])

-- the UTF-8 of a scalar value, and its UTF-16
abbrev pub IsCharacter : List ℕ → List ℕ → Type 0
IsCharacter x u = (c : ℕ) × IsScalar c × (x ≡ encode_utf8 c) × (u ≡ encode_utf16 c)

-- a byte sequence of a page, with its units
abbrev pub IsSequence : Page → List ℕ → List ℕ → Type 0
IsSequence windows_1252 = IsByte windows_unit
IsSequence latin_1 = IsByte latin_unit
IsSequence us_ascii = IsByte ascii_unit
IsSequence utf_8 = IsCharacter
