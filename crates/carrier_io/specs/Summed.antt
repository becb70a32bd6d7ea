-- Calls that append bytes and answer their sum.
use Rattle.std.specs.Prelude.{◌≡◌, ℕ, ◌%◌, List, Option, Result, Ok, Err, IfOk, sum}
use Rattle.carrier_io.specs.Known.{Writes}

-- whether a call went well, without what it answered
abbrev pub ended : {T E : Type 0} → Result T E → Result (Unit {0}) E
ended (Ok x) = Ok tt
ended (Err e) = Err e

-- a number is the sum of the bytes modulo 65,536
abbrev pub IsSumOf : List ℕ → ℕ → Type 0
IsSumOf bs s = s ≡ sum bs % 65536

-- At Ok all the bytes were appended, and their sum modulo 65,536 was answered; at Err a front of them was appended, and
-- a failure was counted.
pub record Sums {E : Type 0} (old new : Option (List ℕ)) (before now : ℕ) (result : Result ℕ E) (bs : List ℕ) : Type 0 where
  pub writes : Writes old new before now (ended result) bs
  pub sum : IfOk result (IsSumOf bs)
