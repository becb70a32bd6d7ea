-- Marks that stay.
use Rattle.std.specs.Prelude.{◌≡◌, ℕ, List, Bool, true, false, get_or}

-- each mark of the old list that is set is set in the new one too
abbrev pub Stay : List Bool → List Bool → Type 0
Stay old new = (n : ℕ) → get_or old n false ≡ true → get_or new n false ≡ true
