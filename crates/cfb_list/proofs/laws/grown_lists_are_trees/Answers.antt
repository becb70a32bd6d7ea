use Rattle.cfb_list.proofs.Grown.{grown_count, grown_sound, grown_steps, grown_tree, listed_and}
use Rattle.cfb_list.proofs.laws.grown_lists_are_trees.Goals as goal

pub returns-clause-tree : goal.returns-clause-tree
returns-clause-tree c files = grown_tree files

pub returns-clause-count : goal.returns-clause-count
returns-clause-count c storages parent files = grown_count storages parent files

pub returns-clause-sound : goal.returns-clause-sound
returns-clause-sound c storages parent files sound lt short = grown_sound storages parent files sound lt short

pub returns-clause-steps : goal.returns-clause-steps
returns-clause-steps c storages parent files more = grown_steps storages parent files more

pub returns-clause-joined : goal.returns-clause-joined
returns-clause-joined c files more = listed_and files more
