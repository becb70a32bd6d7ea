use Rattle.std.proofs.Common.{◌≡◌, ◌+◌, ◌*◌, take}
use Rattle.carrier_model.specs.FileTrees.{files_from, files_listed, storage_depth}
use Rattle.cfb_list.specs.Grown.{grown}
use Rattle.msg_tree.specs.StoreMeaning.{store_of, member_of}
use Rattle.ole_stores.proofs.Members.{member_depth}
use Rattle.ole_stores.proofs.writing.+adding.Given as goal

abbrev pub decreases-add_member : goal.decreases-add_member
decreases-add_member g l = 2 * member_depth (member_of g.B.Blob.bytes l.member.now)

abbrev pub decreases-add_store : goal.decreases-add_store
decreases-add_store g l = 2 * storage_depth (store_of g.B.Blob.bytes l.store.now).members + 1

abbrev pub invariant-add_store-loop-k : goal.invariant-add_store-loop-k
invariant-add_store-loop-k g l = l.files ≡ record l.fn.files { storages = grown l.fn.files.storages l.at (files_from (take l.k (files_listed (store_of g.B.Blob.bytes l.store).members))) }
