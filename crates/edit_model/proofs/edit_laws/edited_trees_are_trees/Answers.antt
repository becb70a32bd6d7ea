use Rattle.edit_model.proofs.KeptTrees.{edited_is_tree}
use Rattle.edit_model.proofs.edit_laws.edited_trees_are_trees.Goals as goal

pub returns : goal.returns
returns c = edited_is_tree
