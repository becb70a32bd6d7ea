use Rattle.tnef_model.proofs.ReadTnef.{carrier_is_tree}
use Rattle.tnef_model.proofs.tnef_laws.tnef_carriers_are_trees.Goals as goal

pub returns : goal.returns
returns c = carrier_is_tree
