use Rattle.std.proofs.Common.{◌≡◌, ◌*◌, ◌++◌, drop}
use Rattle.std.specs.List.{list_all}
use Rattle.carrier_model.specs.KeyTexts.{lower}
use Rattle.carrier_model.specs.HexDigits.{is_digit, bytes_in}
use Rattle.prop_names.proofs.hex_digits.bytes_of_digits.Given as goal

abbrev pub invariant-loop-k : goal.invariant-loop-k
invariant-loop-k l = record {
  digits : list_all (is_digit lower) (drop (2 * l.k) l.text) ≡ list_all (is_digit lower) l.text;
  bytes : l.bytes.items ++ bytes_in (drop (2 * l.k) l.text) ≡ bytes_in l.text;
}
