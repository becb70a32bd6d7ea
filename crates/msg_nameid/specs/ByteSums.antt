-- The cyclic sums of all bytes.
use Rattle.std.specs.Prelude.{◌≡◌, ℕ, ◌<◌, List, get_or}
use Rattle.msg_model.specs.WrittenNames.{sum_byte}

-- the sum of each byte, and the sum of each byte with a zero behind it
pub record AreByteSums (alone before_zero : List ℕ) : Type 0 where
  pub one : (byte : ℕ) → byte < 256 → get_or alone byte 0 ≡ sum_byte 0 byte
  pub two : (byte : ℕ) → byte < 256 → get_or before_zero byte 0 ≡ sum_byte (sum_byte 0 byte) 0
