use Rattle.msg_model.proofs.MsgMessage.{files_exact}
use Rattle.msg_model.proofs.msg_laws.files_mean_one_message.Goals as goal

pub returns : goal.returns
returns c = λ root. files_exact root
