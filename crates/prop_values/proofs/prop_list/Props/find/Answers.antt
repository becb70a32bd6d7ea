use Rattle.carrier_model.proofs.Pairs.{pair_found, pair_absent}
use Rattle.prop_values.proofs.prop_list.Props.find.Goals as goal

pub returns-in-Ok-clause-found : goal.returns-in-Ok-clause-found
returns-in-Ok-clause-found g c = pair_found _ _ _ _ (rw c.number.ensures at c.in-Ok.ensures.found)

pub returns-in-Err-clause-absent : goal.returns-in-Err-clause-absent
returns-in-Err-clause-absent g c = pair_absent _ _ _ _ (rw c.number.ensures at c.in-Err.ensures.absent)
