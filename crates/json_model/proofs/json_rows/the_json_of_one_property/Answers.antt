use Rattle.std.proofs.Common.{refl}
use Rattle.std.specs.Fmt.{digits}
use Rattle.serde_json.proofs.OnLiterals.{serde_json_on_literals}
use Rattle.json_model.proofs.json_rows.the_json_of_one_property.Goals as goal

pub returns-clause-text : goal.returns-clause-text
unfolding serde_json_on_literals digits
returns-clause-text c = refl
