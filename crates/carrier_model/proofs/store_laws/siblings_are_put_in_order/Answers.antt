use Rattle.carrier_model.proofs.StoreOrder.{sorted-order, sorted-again}
use Rattle.carrier_model.proofs.FoundChildren.{sorted-same}
use Rattle.carrier_model.proofs.store_laws.siblings_are_put_in_order.Goals as goal

pub returns : goal.returns
returns c = record { same = sorted-same; order = sorted-order; stay = sorted-again }
