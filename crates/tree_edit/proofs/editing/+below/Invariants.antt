use Rattle.std.proofs.Common.{◌+◌, ◌-◌, ◌*◌, length}
use Rattle.edit_words.specs.Meaning.{edit_of}
use Rattle.edit_words.specs.Parts.{path_of}
use Rattle.tree_edit.proofs.editing.+below.Given as goal

abbrev pub decreases-edit_below : goal.decreases-edit_below
decreases-edit_below g l = 3 * (length (path_of (edit_of l.edit)) - l.at) + 0

abbrev pub decreases-edit_in_attachment : goal.decreases-edit_in_attachment
decreases-edit_in_attachment g l = 3 * (length (path_of (edit_of l.edit)) - l.at) + 2

abbrev pub decreases-edit_in_body : goal.decreases-edit_in_body
decreases-edit_in_body g l = 3 * (length (path_of (edit_of l.edit)) - l.at) + 1
