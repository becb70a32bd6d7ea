use Rattle.msg_model.proofs.WrittenLists.{list_read}
use Rattle.msg_model.proofs.msg_laws.written_lists_are_read.Goals as goal

pub returns : goal.returns
returns c = λ part names place streams props inner few good known h. list_read part names place streams props inner few good known h
