-- What a reader answers: a value, or the first fault. One test or part after another, each only where none before it
-- has a fault.
use Rattle.std.specs.Prelude.{ℕ, ◌+◌, Bool, Result, Ok, Err, if◌then◌else◌}
use Rattle.carrier_model.specs.Trail.{Fault}

infixl 10 ◌>>=◌
abbrev pub ◌>>=◌ : {A B : Type 0} → Result A Fault → (A → Result B Fault) → Result B Fault
(Ok x) >>= next = next x
(Err g) >>= next = Err g

-- a test alone
abbrev pub check : Bool → ℕ → ℕ → Result (Unit {0}) Fault
check holds reason offset = if holds then Ok tt else Err (reason, offset)

-- the same of what is answered
abbrev pub mapped : {A B : Type 0} → (A → B) → Result A Fault → Result B Fault
mapped f (Ok x) = Ok (f x)
mapped f (Err g) = Err g

-- the same for bytes that begin at a place: a fault stands so much further on
abbrev pub moved : {A : Type 0} → ℕ → Result A Fault → Result A Fault
moved at (Ok x) = Ok x
moved at (Err g) = Err (g.0, at + g.1)
