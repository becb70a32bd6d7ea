use Rattle.carrier_model.proofs.OneChain.{chain_of-sound, chain_of-only}
use Rattle.carrier_model.proofs.file_laws.chains_are_exact.Goals as goal

pub returns-clause-sound : goal.returns-clause-sound
returns-clause-sound c = λ T at s field b w need e l is. chain_of-sound T at s field b w need e l is

pub returns-clause-only : goal.returns-clause-only
returns-clause-only c = λ T at s field b w need e l small f. chain_of-only T at s field b w need e l small f
