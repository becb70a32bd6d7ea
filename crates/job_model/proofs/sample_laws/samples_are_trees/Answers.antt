use Rattle.job_model.proofs.SampleParts.{sample_is_tree}
use Rattle.job_model.proofs.sample_laws.samples_are_trees.Goals as goal

pub returns : goal.returns
returns c = sample_is_tree
