use Rattle.msg_model.proofs.WrittenTop.{written_read}
use Rattle.msg_model.proofs.msg_laws.written_files_mean_the_message.Goals as goal

pub returns : goal.returns
returns c = λ t root tree few parts e. written_read t root tree few parts e
