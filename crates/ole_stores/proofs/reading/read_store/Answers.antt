use Rattle.carrier_model.specs.Stores.{store_in}
use Rattle.cfb_directory.specs.Found.{storage_seen}
use Rattle.cfb_sectors.specs.Seen.{bytes_of}
use Rattle.msg_tree.specs.StoreMeaning.{store_of}
use Rattle.ole_stores.proofs.Sides.{both_sides}
use Rattle.ole_stores.proofs.reading.read_store.Goals as goal

pub returns-clause-answer : goal.returns-clause-answer
unfolding store_in
returns-clause-answer c = c.read_within.ensures

pub returns-clause-both : goal.returns-clause-both
unfolding store_in
returns-clause-both c = both_sides (store_of bytes_of) c.read_within.result (storage_seen c.args.files.now c.args.at) c.read_within.ensures
