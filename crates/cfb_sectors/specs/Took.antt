-- What readers answer and what they leave.
use Rattle.std.specs.Prelude.{◌≡◌, ℕ, Result, Ok, Err}
use Rattle.carrier_io.specs.declared.reasons.Fault.{Fault}
use Rattle.carrier_io.specs.Reasons.{fault_of}

-- what a reader that takes no memory answered, seen by view, is what reading gives: a value, or the first fault
abbrev pub Tells : {X Y : Type 0} → (X → Y) → Result X Fault → Result Y (ℕ × ℕ) → Type 0
Tells view (Ok x) read = read ≡ Ok (view x)
Tells view (Err g) read = read ≡ Err (fault_of g)
