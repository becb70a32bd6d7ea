use Rattle.tnef_model.proofs.TnefMessage.{message_exact}
use Rattle.tnef_model.proofs.tnef_laws.tnef_messages_are_exact.Goals as goal

pub returns : goal.returns
returns c = λ levels at bytes. message_exact levels at bytes
