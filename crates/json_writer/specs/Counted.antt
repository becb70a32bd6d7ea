-- Calls that append bytes and count them.
use Rattle.std.specs.Prelude.{◌≡◌, ℕ, List, length, Option, Result, OnOk}
use Rattle.carrier_io.specs.Known.{Writes}
use Rattle.carrier_io.specs.Steps.{stepped}

-- At Ok all the bytes were appended and counted; at Err a front of them was appended, and a failure was counted.
pub record Counts {E : Type 0} (old new : Option (List ℕ)) (before now count after : ℕ) (result : Result (Unit {0}) E) (bs : List ℕ) : Type 0 where
  pub writes : Writes old new before now result bs
  pub counted : OnOk result (after ≡ stepped count (length bs))
