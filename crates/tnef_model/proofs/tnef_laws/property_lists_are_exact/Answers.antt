use Rattle.tnef_model.specs.TnefLists.{prop_list}
use Rattle.carrier_model.proofs.Grammar.{means_exact}
use Rattle.tnef_model.proofs.TnefLists.{prop_list_lawful}
use Rattle.tnef_model.proofs.tnef_laws.property_lists_are_exact.Goals as goal

pub returns : goal.returns
returns c = λ in_attachment at bytes. means_exact (prop_list in_attachment) (prop_list_lawful in_attachment) at bytes
