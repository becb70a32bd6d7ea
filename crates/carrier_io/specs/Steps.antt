-- A count that stays at its greatest value.
use Rattle.std.specs.Prelude.{ℕ, ◌+◌, min, max}

-- the count after n more steps
abbrev pub stepped : ℕ → ℕ → ℕ
stepped count n = max count (min (count + n) 18446744073709551615)
