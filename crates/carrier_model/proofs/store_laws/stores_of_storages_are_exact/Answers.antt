use Rattle.carrier_model.proofs.StoreLaws.{store_in-sound, store_in-only}
use Rattle.carrier_model.proofs.store_laws.stores_of_storages_are_exact.Goals as goal

pub returns : goal.returns
returns c = record { sound = store_in-sound; only = store_in-only }
