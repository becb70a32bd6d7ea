-- How a conversion may end without a result. Want of memory needs no cause.
use Rattle.std.specs.Prelude.{◌≡◌, ℕ, List, Option, Some}
use Rattle.carrier_model.specs.Lists.{first_of_list}
use Rattle.carrier_model.specs.Totals.{capped}
use Rattle.text8_model.specs.Unmapped as told
use Rattle.tree_text8.specs.Meaning.{unmapped_of}
use Rattle.tree_text8.specs.declared.ends.TextEnd.{TextEnd}
use Rattle.tree_text8.specs.declared.ends.TextEnd.TheVariants.{Unmapped, NoMemory}
use Rattle.tree_text8.specs.declared.ends.Why.TheVariants.{Byte}
use Rattle.tree_text8.specs.declared.ends.PartEnd.{PartEnd}
use Rattle.tree_text8.specs.declared.ends.PartEnd.TheVariants.{Bad, NoMemory as Wanting}

-- the first of what isn't mapped
abbrev pub IsEndOf : List told.Unmapped → TextEnd → Type 0
IsEndOf bad (Unmapped u) = first_of_list bad ≡ Some (unmapped_of u)
IsEndOf bad NoMemory = Unit {0}

-- the place of the first byte that isn't mapped, in the only element
abbrev pub IsBadAt : Option ℕ → PartEnd → Type 0
IsBadAt place (Bad element at) = (element ≡ 0) × (place ≡ Some at)
IsBadAt place Wanting = Unit {0}

-- what a page or a property would be told of it
abbrev pub IsBadIn : (ℕ → ℕ → List told.Unmapped) → PartEnd → Type 0
IsBadIn bad (Bad element at) = (code n : ℕ) → first_of_list (bad code n) ≡ Some (record { why = told.at_byte; property = capped n; element = element; at = at; page = code })
IsBadIn bad Wanting = Unit {0}

-- the same of another element
abbrev pub in_element : PartEnd → ℕ → PartEnd
in_element (Bad element at) k = Bad k at
in_element Wanting k = Wanting

-- what is told of it
abbrev pub of_property : PartEnd → ℕ → ℕ → TextEnd
of_property (Bad element at) code n = Unmapped (record { why = Byte; property = n; element = element; at = at; page = code })
of_property Wanting code n = NoMemory
