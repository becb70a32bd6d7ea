use Rattle.carrier_model.proofs.OrderLaws.{props_exactly}
use Rattle.carrier_model.proofs.Orders.{prop_total}
use Rattle.carrier_model.proofs.order_laws.properties_are_ordered.Goals as goal

pub returns : goal.returns
returns c = record { total = prop_total; exact = props_exactly }
