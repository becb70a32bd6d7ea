-- Texts of 8-bit characters, and the units that they mean in a page.
use Rattle.std.specs.Prelude.{◌≡◌, ℕ, ◌<◌, ◌++◌, Bool, if◌then◌else◌, not, List, map, length, take, drop, Option, Some, None, is_some, unwrap_or}
use Rattle.std.specs.Char.Escape.{encode_utf16}
use Rattle.std.specs.List.{AllByRecursion, flat_map, position_from}
use Rattle.std.specs.Str.{chars, is_utf8}
use Rattle.std.specs.Str.Lossy.{utf8_valid_len}
use Rattle.text8_model.specs.Pages.{Page, windows_1252, latin_1, us_ascii, utf_8, windows_unit, latin_unit, ascii_unit, IsSequence}

-- the bytes are sequences of the page one after another, and the units are theirs
abbrev pub TextOf : Page → List ℕ → List ℕ → Type 0
TextOf page x u =
    (pairs : List (List ℕ × List ℕ)) × AllByRecursion (λ s. IsSequence page s.0 s.1) pairs
    × (x ≡ flat_map (λ s. s.0) pairs) × (u ≡ flat_map (λ s. s.1) pairs)

-- sequences of the page stand up to a place, and the byte that stands there begins none
pub record IsFirstBad (page : Page) (x : List ℕ) (at : ℕ) : Type 0 where
  pub there : at < length x
  pub front : (u : List ℕ) × TextOf page (take at x) u
  pub none : (s u more : List ℕ) → IsSequence page s u → drop at x ≡ s ++ more → ⊥

-- ---- the units, and the first byte without any

abbrev pub has_no_unit : (ℕ → Option ℕ) → ℕ → Bool
has_no_unit unit_of byte = not (is_some (unit_of byte))

-- in a page of single bytes
abbrev pub bad_by : (ℕ → Option ℕ) → List ℕ → Option ℕ
bad_by unit_of x = position_from (has_no_unit unit_of) 0 x

abbrev pub units_by : (ℕ → Option ℕ) → List ℕ → List ℕ
units_by unit_of x = map (λ byte. unwrap_or (unit_of byte) 0) x

-- the place of the first byte that begins no sequence
abbrev pub bad_place : Page → List ℕ → Option ℕ
bad_place windows_1252 x = bad_by windows_unit x
bad_place latin_1 x = bad_by latin_unit x
bad_place us_ascii x = bad_by ascii_unit x
bad_place utf_8 x = if is_utf8 x then None else Some (utf8_valid_len x)

-- the units of a text in which each byte belongs to a sequence
abbrev pub units_in : Page → List ℕ → List ℕ
units_in windows_1252 x = units_by windows_unit x
units_in latin_1 x = units_by latin_unit x
units_in us_ascii x = units_by ascii_unit x
units_in utf_8 x = flat_map encode_utf16 (chars x)
