use Rattle.std.proofs.Common.{◌≡◌, drop}
use Rattle.carrier_model.specs.FileTrees.{files_listed}
use Rattle.carrier_model.specs.Stores.{PROPERTIES, has_stream}
use Rattle.msg_tree.specs.StoreMeaning.{store_of}
use Rattle.msg_tree.proofs.Streams.{has_from}
use Rattle.msg_tree.proofs.store_shape.has_properties.Given as goal

abbrev pub invariant-loop-k : goal.invariant-loop-k
invariant-loop-k g l = has_stream (store_of g.B.Blob.bytes l.store).members PROPERTIES ≡ has_from PROPERTIES (drop l.k (files_listed (store_of g.B.Blob.bytes l.store).members))
