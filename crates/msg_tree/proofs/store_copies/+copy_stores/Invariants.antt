use Rattle.std.proofs.Common.{◌≡◌, ◌+◌, ◌*◌, take}
use Rattle.carrier_model.specs.FileTrees.{files_from, files_listed, storage_depth}
use Rattle.msg_tree.specs.StoreMeaning.{store_of, member_of}
use Rattle.msg_tree.proofs.StoreSteps.{member_depth}
use Rattle.msg_tree.proofs.store_copies.+copy_stores.Given as goal

abbrev pub decreases-copy_member : goal.decreases-copy_member
decreases-copy_member g l = 2 * member_depth (member_of g.B.Blob.bytes l.member.now)

abbrev pub decreases-copy_store : goal.decreases-copy_store
decreases-copy_store g l = 2 * storage_depth (store_of g.B.Blob.bytes l.store.now).members + 1

abbrev pub invariant-copy_store-loop-k : goal.invariant-copy_store-loop-k
invariant-copy_store-loop-k g l = store_of (λ v. v.items) l.all ≡ record { class = (store_of g.B.Blob.bytes l.store).class; members = files_from (take l.k (files_listed (store_of g.B.Blob.bytes l.store).members)) }
