use Rattle.tnef_model.specs.TnefLists.{recipient_lists}
use Rattle.carrier_model.proofs.Grammar.{means_exact}
use Rattle.tnef_model.proofs.TnefLists.{recipient_lists_lawful}
use Rattle.tnef_model.proofs.tnef_laws.recipient_lists_are_exact.Goals as goal

pub returns : goal.returns
returns c = λ at bytes. means_exact recipient_lists recipient_lists_lawful at bytes
