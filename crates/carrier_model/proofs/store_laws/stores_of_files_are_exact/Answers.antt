use Rattle.carrier_model.proofs.StoreLaws.{store_file-sound, store_file-only}
use Rattle.carrier_model.proofs.store_laws.stores_of_files_are_exact.Goals as goal

pub returns : goal.returns
returns c = record { sound = store_file-sound; only = store_file-only }
