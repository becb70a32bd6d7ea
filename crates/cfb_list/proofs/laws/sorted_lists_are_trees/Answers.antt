use Rattle.cfb_list.proofs.BuiltTrees.{tree_sorted}
use Rattle.cfb_list.proofs.Soundness.{sorted_sound}
use Rattle.cfb_list.proofs.laws.sorted_lists_are_trees.Goals as goal

pub returns-clause-sound : goal.returns-clause-sound
returns-clause-sound c storages s = sorted_sound storages s

pub returns-clause-tree : goal.returns-clause-tree
returns-clause-tree c storages = tree_sorted storages
