-- The end of reading a text without a tree.
use Rattle.std.specs.Prelude.{ℕ, List}
use Rattle.json_model.specs.JsonMeanings.{FirstJsonFault}
use Rattle.tree_from_json.specs.Ends.{plain_fault}
use Rattle.tree_from_json.specs.declared.read_ends.JsonEnd.{JsonEnd}
use Rattle.tree_from_json.specs.declared.read_ends.JsonEnd.TheVariants.{Fault, NoMemory}

-- it is the first fault of the text; want of memory needs no cause
abbrev pub IsFirstEnd : List ℕ → JsonEnd → Type 0
IsFirstEnd b (Fault g) = FirstJsonFault b (plain_fault g)
IsFirstEnd b NoMemory = Unit {0}
