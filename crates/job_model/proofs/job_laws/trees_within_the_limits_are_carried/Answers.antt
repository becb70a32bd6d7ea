use Rattle.job_model.proofs.WithinLimits.{tree_within}
use Rattle.job_model.proofs.job_laws.trees_within_the_limits_are_carried.Goals as goal

pub returns : goal.returns
returns c = tree_within
