-- The text of the first edit that can't be done.
use Rattle.std.specs.Prelude.{ℕ, List, ◌++◌, codes, decimal}
use Rattle.edit_model.specs.Edits.{Why, no_place, no_property, EditFault}

abbrev pub why_name : Why → List ℕ
why_name no_place = codes "NoPlace"
why_name no_property = codes "NoProperty"

-- the number of the edit, from 0, and why
abbrev pub edit_text : EditFault → List ℕ
edit_text g = codes "edit " ++ (decimal g.0 ++ (codes " " ++ why_name g.1))
