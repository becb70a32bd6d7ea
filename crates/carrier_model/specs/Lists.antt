-- Parts of lists, and look-ups in tables.
use Rattle.std.specs.Prelude.{ℕ, ◌==◌, if◌then◌else◌, [], List, [], ◌∷◌, Option, Some, None}

-- the first of some, or none
abbrev pub first_of_list : {A : Type 0} → List A → Option A
first_of_list [] = None
first_of_list (x ∷ xs) = Some x

-- what stands beside a number in the first row that has it
abbrev pub looked_up : {A : Type 0} → List (ℕ × A) → ℕ → Option A
looked_up [] n = None
looked_up (row ∷ rows) n = if row.0 == n then Some row.1 else looked_up rows n
