-- Numbers as they are held, and the steps of a place one by one.
use Rattle.std.specs.Prelude.{ℕ, ◌≤◌, ◌^◌, length, ◌==◌, ◌&&◌, nat_lt, List, [], ◌∷◌, Option, Some, None, if◌then◌else◌}
use Rattle.edit_model.specs.EditWords.{is_decimal, number_behind, where_true, place_number, MOST_WORD_BYTES}
use Rattle.prop_values.specs.declared.kinds.Kind.{Kind}
use Rattle.prop_values.specs.declared.kinds.Kind.TheVariants as kinds
use Rattle.edit_model.specs.Edits.{Spot, recipient, attachment}

-- a decimal number of at most 64 bits
abbrev pub decimal_of_64 : List ℕ → Option ℕ
decimal_of_64 word = where_true (is_decimal word && nat_lt (number_behind 0 word) (2 ^ 64)) (number_behind 0 word)

-- the number of a step that begins with a letter
abbrev pub step_number : ℕ → List ℕ → Option ℕ
step_number letter [] = None
step_number letter (c ∷ digits) = if c == letter then place_number digits else None

-- the spot of a step that begins with the one letter or with the other
abbrev pub spot_among : Option ℕ → Option ℕ → Option Spot
spot_among (Some n) other = Some (recipient n)
spot_among None (Some n) = Some (attachment n)
spot_among None None = None

abbrev pub spot_number : List ℕ → Option Spot
spot_number step = spot_among (step_number 0x72 step) (step_number 0x61 step)

-- one of the kinds that an edit may have
abbrev pub IsEditKind : Kind → Type 0
IsEditKind kinds.Integer16 = Unit {0}
IsEditKind kinds.Integer32 = Unit {0}
IsEditKind kinds.Integer64 = Unit {0}
IsEditKind kinds.Currency = Unit {0}
IsEditKind kinds.ErrorCode = Unit {0}
IsEditKind kinds.Boolean = Unit {0}
IsEditKind kinds.Time = Unit {0}
IsEditKind kinds.String = Unit {0}
IsEditKind kinds.Binary = Unit {0}
IsEditKind kinds.Guid = Unit {0}
IsEditKind _ = ⊥

-- a word of no more bytes than a word has
abbrev pub IsShort : List ℕ → Type 0
IsShort word = length word ≤ MOST_WORD_BYTES
