use Rattle.std.proofs.Common.{subst}
use Rattle.carrier_model.specs.Values.{prop_cmp}
use Rattle.carrier_model.specs.Sorted.{IsStrictlySorted}
use Rattle.carrier_model.proofs.Orders.{prop_total}
use Rattle.carrier_model.proofs.Place.{place_cut, gap_cut}
use Rattle.prop_values.proofs.prop_list.Props.count_before.Goals as goal

pub returns-in-Ok : goal.returns-in-Ok
returns-in-Ok g c = place_cut prop_total _ _ _ (subst (IsStrictlySorted prop_cmp) c.self.view_is c.self.invariant) c.in-Ok.ensures.found

pub returns-in-Err : goal.returns-in-Err
returns-in-Err g c = gap_cut _ _ _ c.in-Err.ensures.absent
