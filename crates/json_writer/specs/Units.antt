-- Characters of UTF-16 units that come one by one. [RFC 2781]
use Rattle.std.specs.Prelude.{ℕ, Bool, true, false, not, ◌&&◌, if◌then◌else◌, List, [], ◌∷◌, ◌++◌, Option, None, Some}
use lib.Utf8.{scalar}
use Rattle.std.specs.Char.{encode_utf8}
use Rattle.std.specs.Char.Utf16.{is_high_surrogate, is_low_surrogate, surrogate_pair_char, lone_unit_char}
use Rattle.json.specs.Print.{escape}

-- a number, where it is the code of a character
abbrev pub character : ℕ → Option ℕ
character code = if scalar code then Some code else None

-- the character that a unit completes, where the first unit of a pair may wait for it
abbrev pub completed : Option ℕ → ℕ → Option ℕ
completed None unit = lone_unit_char unit
completed (Some high) unit = if is_low_surrogate unit then character (surrogate_pair_char high unit) else None

-- the first unit of a pair, which waits behind it
abbrev pub waiting : Option ℕ → ℕ → Option ℕ
waiting None unit = if is_high_surrogate unit then Some unit else None
waiting (Some high) unit = None

-- whether the unit may stand there
abbrev pub fits : Option ℕ → ℕ → Bool
fits None unit = not (is_low_surrogate unit)
fits (Some high) unit = is_low_surrogate unit

-- a character in a JSON string
abbrev pub character_text : Option ℕ → List ℕ
character_text None = []
character_text (Some c) = escape (encode_utf8 c)

-- those of units, one after another
abbrev pub units_text : Option ℕ → List ℕ → List ℕ
units_text high [] = []
units_text high (unit ∷ more) = character_text (completed high unit) ++ units_text (waiting high unit) more

-- no unit stands where it may not, and none waits at the end
abbrev pub all_fit : Option ℕ → List ℕ → Bool
all_fit None [] = true
all_fit (Some high) [] = false
all_fit None (unit ∷ more) = fits None unit && all_fit (waiting None unit) more
all_fit (Some high) (unit ∷ more) = fits (Some high) unit && all_fit (waiting (Some high) unit) more
