use Rattle.msg_model.proofs.NameMap.{pairs_of-sound, pairs_of-only}
use Rattle.msg_model.proofs.msg_laws.names_are_exact.Goals as goal

pub returns-clause-sound : goal.returns-clause-sound
returns-clause-sound c = λ s pairs h. pairs_of-sound s pairs h

pub returns-clause-only : goal.returns-clause-only
returns-clause-only c = λ s pairs h. pairs_of-only s pairs h
