-- How there may be no plan.
use Rattle.std.specs.Prelude.{◌≡◌, ℕ, ◌<◌, List, length}
use Rattle.carrier_io.specs.declared.failures.PlanEnd.{PlanEnd}
use Rattle.carrier_io.specs.declared.failures.PlanEnd.TheVariants.{TooLarge, NoMemory}
use Rattle.carrier_model.specs.Bytes.{MOST_BYTES}
use Rattle.carrier_model.specs.Totals.{capped}

-- The file is too large, and the number is its length. Memory may want.
abbrev pub IsEndOf : List ℕ → PlanEnd → Type 0
IsEndOf bytes (TooLarge n) = (MOST_BYTES < length bytes) × (n ≡ capped (length bytes))
IsEndOf bytes NoMemory = Unit {0}
