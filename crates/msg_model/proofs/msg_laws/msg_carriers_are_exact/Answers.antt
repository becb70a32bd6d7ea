use Rattle.msg_model.proofs.MsgMessage.{carrier-sound, carrier-only, carriers_exact}
use Rattle.msg_model.proofs.msg_laws.msg_carriers_are_exact.Goals as goal

pub returns-clause-sound : goal.returns-clause-sound
returns-clause-sound c = λ b m h. carrier-sound b m h

pub returns-clause-only : goal.returns-clause-only
returns-clause-only c = λ b m short h. carrier-only b m short h

pub returns-clause-exact : goal.returns-clause-exact
returns-clause-exact c = λ b short. carriers_exact b short
