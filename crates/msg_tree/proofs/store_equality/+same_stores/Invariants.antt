use Rattle.std.proofs.Common.{◌≡◌, ◌+◌, ◌*◌, take}
use Rattle.carrier_model.specs.FileTrees.{files_listed, storage_depth}
use Rattle.msg_tree.specs.StoreMeaning.{store_of, member_of}
use Rattle.msg_tree.proofs.StoreSteps.{member_depth}
use Rattle.msg_tree.proofs.store_equality.+same_stores.Given as goal

abbrev pub decreases-same_member : goal.decreases-same_member
decreases-same_member g l = 2 * member_depth (member_of g.B.Blob.bytes l.one.now)

abbrev pub decreases-same_store : goal.decreases-same_store
decreases-same_store g l = 2 * storage_depth (store_of g.B.Blob.bytes l.one.now).members + 1

abbrev pub invariant-same_store-loop-k : goal.invariant-same_store-loop-k
invariant-same_store-loop-k g l = take l.k (files_listed (store_of g.B.Blob.bytes l.one).members) ≡ take l.k (files_listed (store_of g.C.Blob.bytes l.other).members)
