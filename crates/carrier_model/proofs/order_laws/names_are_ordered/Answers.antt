use Rattle.carrier_model.proofs.OrderLaws.{names_exactly}
use Rattle.carrier_model.proofs.Orders.{name_total}
use Rattle.carrier_model.proofs.order_laws.names_are_ordered.Goals as goal

pub returns : goal.returns
returns c = record { total = name_total; exact = names_exactly }
