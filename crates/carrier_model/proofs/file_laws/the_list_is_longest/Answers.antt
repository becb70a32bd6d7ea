use Rattle.std.proofs.Common.{refl}
use Rattle.carrier_model.specs.Chains.{longest}
use Rattle.carrier_model.proofs.ChainLaws.{is_longest, length-Run}
use Rattle.carrier_model.proofs.OneChain.{Run-longest}
use Rattle.carrier_model.proofs.file_laws.the_list_is_longest.Goals as goal

pub returns-clause-run : goal.returns-clause-run
returns-clause-run c = λ T s b w e. Run-longest b T s b w e (longest b T s b w e) refl

pub returns-clause-longest : goal.returns-clause-longest
returns-clause-longest c = λ T s b w e l x r. is_longest b T s b w e l x r (length-Run T s b w e l x r)
