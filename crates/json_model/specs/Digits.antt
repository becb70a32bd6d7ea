-- Bytes as hexadecimal digits, two a byte, in lower case; and ids, as four digits in upper case.
use Rattle.std.specs.Prelude.{ℕ, ◌%◌, ◌==◌, ◌&&◌, nat_lt, List, length, Result, Ok}
use Rattle.std.specs.List.{flat_map}
use Rattle.serde_json.specs.Data.{Data}
use Rattle.carrier_model.specs.HexDigits.{is_hex, bytes_in, are_digits, number_in}
use Rattle.carrier_model.specs.KeyTexts.{hex_digits, lower}
use Rattle.json_model.specs.Faults.{JsonFault, digits, range, ◌>>=◌, check}
use Rattle.json_model.specs.Parts.{string_at}

-- two digits a byte
abbrev pub hex : List ℕ → List ℕ
hex bytes = flat_map (hex_digits lower 2) bytes

-- bytes in whole groups of so many digits
abbrev pub read_groups : ℕ → Data → Result (List ℕ) JsonFault
read_groups group v = do
  text ← string_at v
  whole ← check (is_hex text && (length text % group == 0)) digits
  Ok (bytes_in text)

abbrev pub read_hex : Data → Result (List ℕ) JsonFault
read_hex = read_groups 2

-- the 16 bytes of a set or a class
abbrev pub read_guid : Data → Result (List ℕ) JsonFault
read_guid v = do
  text ← string_at v
  whole ← check (is_hex text && (length text == 32)) digits
  Ok (bytes_in text)

-- the text of an id
abbrev pub read_id : List ℕ → Result ℕ JsonFault
read_id text = do
  four ← check (are_digits 4 text) digits
  small ← check (nat_lt (number_in text) 0x8000) range
  Ok (number_in text)
