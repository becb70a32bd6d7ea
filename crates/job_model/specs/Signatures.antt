-- How bytes begin. [MS-OXTNEF 2.1.3, MS-CFB 2.2]
use Rattle.std.specs.Prelude.{ℕ, ◌==◌, ◌&&◌, Bool, List, length, drop, nat_le}
use Rattle.tnef_model.specs.Attributes.{SIGNATURE}
use Rattle.carrier_model.specs.Bytes.{number32}
use Rattle.carrier_model.specs.Tables.{SIGNATURE_LOW, SIGNATURE_HIGH}

-- as a TNEF stream
abbrev pub is_signed : List ℕ → Bool
is_signed bytes = nat_le 4 (length bytes) && (number32 bytes == SIGNATURE)

-- as a compound file
abbrev pub is_compound : List ℕ → Bool
is_compound bytes = nat_le 8 (length bytes) && ((number32 bytes == SIGNATURE_LOW) && (number32 (drop 4 bytes) == SIGNATURE_HIGH))
