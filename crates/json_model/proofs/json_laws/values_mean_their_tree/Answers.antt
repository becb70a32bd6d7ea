use Rattle.json_model.proofs.Meant.{json_meant}
use Rattle.json_model.proofs.json_laws.values_mean_their_tree.Goals as goal

pub returns : goal.returns
returns c = json_meant
