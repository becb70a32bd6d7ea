use Rattle.msg_model.proofs.MsgMessage.{files_meaning-sound, files_meaning-only}
use Rattle.msg_model.proofs.msg_laws.messages_of_files_are_exact.Goals as goal

pub returns-clause-sound : goal.returns-clause-sound
returns-clause-sound c = λ root m h. files_meaning-sound root m h

pub returns-clause-only : goal.returns-clause-only
returns-clause-only c = λ root m h. files_meaning-only root m h
