-- Texts: a string where the UTF-16 units are well-formed, and else the units themselves. [RFC 8259, section 8]
use Rattle.std.specs.Prelude.{ℕ, ◌*◌, nat_le, List, [], ◌∷◌, length, if◌then◌else◌, Result, Ok, codes}
use Rattle.std.specs.Char.Escape.{encode_utf16}
use Rattle.std.specs.Char.Utf16.{has_unpaired_surrogate, utf16_lossy_chars}
use Rattle.std.specs.List.{flat_map}
use Rattle.std.specs.Str.{chars, encode_utf8_all}
use Rattle.serde_json.specs.Data.{Data, null, boolean, number, string, array, object, member, no_members}
use Rattle.carrier_model.specs.Bytes.{units_of, unit_bytes}
use Rattle.json_model.specs.Digits.{hex, read_groups}
use Rattle.json_model.specs.Faults.{JsonFault, form, range, ◌>>=◌, check, under}
use Rattle.json_model.specs.Parts.{has_members, member_at}

-- ---- written

-- the UTF-8 of well-formed units
abbrev pub utf8_of : List ℕ → List ℕ
utf8_of units = encode_utf8_all (utf16_lossy_chars units)

-- a text by its bytes, two a unit
abbrev pub text_json : List ℕ → Data
text_json bytes =
    if has_unpaired_surrogate (units_of bytes) then object (member (codes "units") (string (hex bytes)) no_members)
    else string (utf8_of (units_of bytes))

-- a name by its units
abbrev pub name_json : List ℕ → Data
name_json units = text_json (unit_bytes units)

-- ---- read

abbrev pub UNITS : List (List ℕ)
UNITS = codes "units" ∷ []

-- the bytes of a string's units
abbrev pub utf16_of : List ℕ → List ℕ
utf16_of s = unit_bytes (flat_map encode_utf16 (chars s))

abbrev pub read_units : Data → Result (List ℕ) JsonFault
read_units v = do
  whole ← check (has_members UNITS v) form
  units ← member_at (codes "units") v
  under 0 (read_groups 4 units)

-- a text's bytes
abbrev pub read_text : Data → Result (List ℕ) JsonFault
read_text null = read_units null
read_text (boolean b) = read_units (boolean b)
read_text (number n) = read_units (number n)
read_text (string s) = Ok (utf16_of s)
read_text (array ds) = read_units (array ds)
read_text (object ms) = read_units (object ms)

-- the units of a text of at most so many
abbrev pub read_name : ℕ → Data → Result (List ℕ) JsonFault
read_name most v = do
  bytes ← read_text v
  short ← check (nat_le (length bytes) (2 * most)) range
  Ok (units_of bytes)
