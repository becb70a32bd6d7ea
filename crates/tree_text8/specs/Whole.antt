-- The end of a conversion without a tree.
use Rattle.std.specs.Prelude.{◌≡◌, Some}
use Rattle.carrier_model.specs.Tree.{Message}
use Rattle.text8_model.specs.Become.{UnicodeOf}
use Rattle.text8_model.specs.Unicode.{first_unmapped}
use Rattle.tree_text8.specs.Meaning.{unmapped_of}
use Rattle.tree_text8.specs.declared.ends.TextEnd.{TextEnd}
use Rattle.tree_text8.specs.declared.ends.TextEnd.TheVariants.{Unmapped, NoMemory}

-- it is the first that isn't mapped, and the tree becomes none; want of memory needs no cause
abbrev pub IsFirstEnd : Message → TextEnd → Type 0
IsFirstEnd t (Unmapped u) = (first_unmapped t ≡ Some (unmapped_of u)) × ((v : Message) → UnicodeOf t v → ⊥)
IsFirstEnd t NoMemory = Unit {0}
