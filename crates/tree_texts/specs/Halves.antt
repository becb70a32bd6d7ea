-- 16-bit units that come byte by byte, the low byte of each first.
use Rattle.std.specs.Prelude.{ℕ, ◌+◌, ◌*◌, List, [], ◌∷◌, Option, None, Some}
use Rattle.carrier_model.specs.KeyTexts.{unit_text}

-- the low byte of a unit whose high byte is still to come
abbrev pub kept : Option ℕ → List ℕ
kept None = []
kept (Some low) = low ∷ []

-- what one more byte completes
abbrev pub half_text : Option ℕ → ℕ → List ℕ
half_text None byte = []
half_text (Some low) byte = unit_text (low + 256 * byte)

-- and what is kept behind it
abbrev pub half_kept : Option ℕ → ℕ → Option ℕ
half_kept None byte = Some byte
half_kept (Some low) byte = None

-- what is kept behind several
abbrev pub kept_behind : Option ℕ → List ℕ → Option ℕ
kept_behind low [] = low
kept_behind low (byte ∷ more) = kept_behind (half_kept low byte) more
