-- What the ends of a list of edits say.
use Rattle.std.specs.Prelude.{◌≡◌, List, Err}
use Rattle.carrier_model.specs.Tree.{Message}
use Rattle.edit_model.specs.Edits as plain
use Rattle.edit_model.specs.Edits.{no_place, no_property, edited_tree}
use Rattle.tree_edit.specs.declared.ends.EditEnd.{EditEnd}
use Rattle.tree_edit.specs.declared.ends.EditEnd.TheVariants as ends
use Rattle.tree_edit.specs.declared.ends.EditFault.{EditFault}
use Rattle.tree_edit.specs.declared.ends.EditWhy.{EditWhy}
use Rattle.tree_edit.specs.declared.ends.EditWhy.TheVariants as whys

abbrev pub why_of : EditWhy → plain.Why
why_of whys.NoPlace = no_place
why_of whys.NoProperty = no_property

abbrev pub fault_of : EditFault → plain.EditFault
fault_of g = (g.edit, why_of g.why)

-- it is the first edit that can't be done; or there was no memory
abbrev pub IsEndOf : List plain.Edit → Message → EditEnd → Type 0
IsEndOf es t (ends.Fault g) = edited_tree es t ≡ Err (fault_of g)
IsEndOf es t ends.NoMemory = Unit {0}
