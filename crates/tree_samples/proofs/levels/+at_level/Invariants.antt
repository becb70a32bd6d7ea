use Rattle.tree_samples.proofs.levels.+at_level.Given as goal

abbrev pub decreases-at_level : goal.decreases-at_level
decreases-at_level l = l.below
