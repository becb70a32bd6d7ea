use Rattle.msg_model.proofs.NumberedLaws.{ordered}
use Rattle.msg_model.proofs.msg_laws.numbered_storages_are_in_order.Goals as goal

pub returns : goal.returns
returns c = λ prefix children h. ordered prefix children h
