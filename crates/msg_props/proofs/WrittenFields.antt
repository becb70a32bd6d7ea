-- The fields of numbers that are written.
use Rattle.std.proofs.Common.{◌≡◌, ℕ, ◌<◌, take, inl, inr, refl, arith}
use Rattle.std.specs.Int.{w64, to_le_bytes}
use Rattle.carrier_model.specs.Bytes.{le_bytes}
use Rattle.msg_props.specs.Tagged.{IsSize}

-- the front of a number's eight bytes
pub number_front : (w n : ℕ) → IsSize w → 0 < w → take w (to_le_bytes w64 n) ≡ le_bytes w n
number_front w n (inl e) some = absurd (omega (arith, e, some))
number_front w n (inr (inl e)) some = rw e refl
number_front w n (inr (inr (inl e))) some = rw e refl
number_front w n (inr (inr (inr e))) some = rw e refl
