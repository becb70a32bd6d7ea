use Rattle.carrier_model.proofs.HoldsLaws.{file_holds}
use Rattle.carrier_model.proofs.file_laws.versions_say_sizes.Goals as goal

pub returns : goal.returns
returns c = λ z b f size h. file_holds z b f size h
