use Rattle.json_model.proofs.NoFloats.{json_plain}
use Rattle.json_model.proofs.json_laws.values_have_no_floats.Goals as goal

pub returns : goal.returns
returns c = json_plain
