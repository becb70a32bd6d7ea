use Rattle.carrier_model.proofs.OrderLaws.{keys_exactly}
use Rattle.carrier_model.proofs.Orders.{key_total}
use Rattle.carrier_model.proofs.order_laws.keys_are_ordered.Goals as goal

pub returns : goal.returns
returns c = record { total = key_total; exact = keys_exactly }
