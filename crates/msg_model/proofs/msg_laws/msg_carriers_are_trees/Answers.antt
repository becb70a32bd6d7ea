use Rattle.msg_model.proofs.ReadMsgMessage.{msg_is_tree}
use Rattle.msg_model.proofs.msg_laws.msg_carriers_are_trees.Goals as goal

pub returns : goal.returns
returns c = msg_is_tree
