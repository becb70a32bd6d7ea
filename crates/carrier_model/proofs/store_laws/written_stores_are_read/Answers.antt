use Rattle.carrier_model.proofs.StoreWritten.{written_store}
use Rattle.carrier_model.proofs.store_laws.written_stores_are_read.Goals as goal

pub returns : goal.returns
returns c = written_store
