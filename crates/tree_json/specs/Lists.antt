-- The values of an array, in print.
use Rattle.std.specs.Prelude.{Bool, true, ℕ, List, [], ◌∷◌, ◌++◌}
use Rattle.serde_json.specs.Data.{Data}
use Rattle.serde_json.specs.Written.{compact_text, comma_if}

-- values with a comma before each, but before the first only where something stands before it
abbrev pub behind : Bool → List Data → List ℕ
behind later [] = []
behind later (d ∷ more) = comma_if later ++ (compact_text d ++ behind true more)
