-- Words over a small tree, of which computed rows speak.
use Rattle.std.specs.Prelude.{ℕ, List, [], ◌∷◌, Option, Result}
use Rattle.std.specs.Option.{option_map}
use Rattle.carrier_model.specs.SmallTrees.{integer32}
use Rattle.carrier_model.specs.Tree.{Message, message, no_more}
use Rattle.edit_model.specs.EditWords.{edits_of}
use Rattle.edit_model.specs.Edits.{EditFault, edited_tree}

-- a message with one property, whose id is 0017
abbrev pub one_number : ℕ → Message
one_number n = message (integer32 0x0017 n ∷ []) [] no_more

-- what the edits of words make of a tree
abbrev pub edited_by : List (List ℕ) → Message → Option (Result Message EditFault)
edited_by words t = option_map (λ edits. edited_tree edits t) (edits_of words)
