use Rattle.carrier_model.specs.FileTrees as plain
use Rattle.msg_tree.specs.StoreMeaning.{store_of}
use Rattle.msg_tree.proofs.Places.{AllBelow}
use Rattle.msg_tree.proofs.stores.Store.place_of.Given as goal

abbrev pub invariant-loop-k : goal.invariant-loop-k
invariant-loop-k g l = AllBelow (plain.file_names (store_of g.B.Blob.bytes l.self).members) l.name l.k
