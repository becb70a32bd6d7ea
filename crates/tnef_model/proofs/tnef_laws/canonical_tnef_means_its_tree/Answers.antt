use Rattle.tnef_model.proofs.CanonicalTnef.{tree_means, tree_alone, tree_faultless}
use Rattle.tnef_model.proofs.tnef_laws.canonical_tnef_means_its_tree.Goals as goal

pub returns : goal.returns
returns c = record { means = tree_means; alone = tree_alone; faultless = tree_faultless }
