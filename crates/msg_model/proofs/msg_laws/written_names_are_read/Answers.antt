use Rattle.msg_model.proofs.WrittenNames.{names_read}
use Rattle.msg_model.proofs.msg_laws.written_names_are_read.Goals as goal

pub returns : goal.returns
returns c = λ s names h map_of. names_read s names h map_of
