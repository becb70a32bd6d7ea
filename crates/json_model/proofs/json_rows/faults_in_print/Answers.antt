use Rattle.std.proofs.Common.{refl}
use Rattle.std.specs.Fmt.{digits}
use Rattle.json_model.proofs.json_rows.faults_in_print.Goals as goal

pub returns-clause-inner : goal.returns-clause-inner
unfolding digits
returns-clause-inner c = refl
