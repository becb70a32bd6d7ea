use Rattle.msg_model.proofs.WrittenFits.{may_be_written}
use Rattle.msg_model.proofs.msg_laws.files_of_a_message_may_be_written.Goals as goal

pub returns : goal.returns
returns c = λ t tree few parts fit. may_be_written t tree few parts fit
