-- Things that are read in turn, up to the first fault.
use Rattle.std.specs.Prelude.{List, [], ◌∷◌, ◌++◌, Option, Some, None, Result, Ok, Err}
use Rattle.carrier_model.specs.Trail.{Fault, Test, first_fault}
use Rattle.carrier_model.specs.Outcomes.{◌>>=◌}

-- What things give, in order, behind what those before them gave. What a thing gives can rest on that.
unfoldable pub in_turn : {A B : Type 0} → (List B → A → Result B Fault) → List B → List A → Result (List B) Fault
in_turn read before [] = Ok before
in_turn read before (a ∷ others) = do
  b ← read before a
  in_turn read (before ++ b ∷ []) others

-- what each gives by itself
abbrev pub each : {A B : Type 0} → (A → Result B Fault) → List A → Result (List B) Fault
each read = in_turn (λ before. read) []

-- tests in order
abbrev pub unless : Option Fault → Result (Unit {0}) Fault
unless None = Ok tt
unless (Some g) = Err g

abbrev pub tested : List Test → Result (Unit {0}) Fault
tested tests = unless (first_fault tests)

-- what is there, or a fault
abbrev pub found : {A : Type 0} → Option A → Fault → Result A Fault
found None g = Err g
found (Some x) g = Ok x
