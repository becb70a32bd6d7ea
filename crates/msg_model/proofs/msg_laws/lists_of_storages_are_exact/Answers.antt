use Rattle.msg_model.proofs.MsgProps.{props_of-sound, props_of-only}
use Rattle.msg_model.proofs.msg_laws.lists_of_storages_are_exact.Goals as goal

pub returns-clause-sound : goal.returns-clause-sound
returns-clause-sound c = λ part pairs place streams l h. props_of-sound part pairs streams place l h

pub returns-clause-only : goal.returns-clause-only
returns-clause-only c = λ part pairs place streams l h. props_of-only part pairs streams place l h
