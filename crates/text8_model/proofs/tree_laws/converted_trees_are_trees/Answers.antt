use Rattle.text8_model.proofs.KeptLaws.{tree_kept}
use Rattle.text8_model.proofs.tree_laws.converted_trees_are_trees.Goals as goal

pub returns : goal.returns
returns c = tree_kept
