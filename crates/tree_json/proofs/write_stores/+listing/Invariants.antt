use Rattle.std.proofs.Common.{◌+◌, ◌*◌, take}
use Rattle.std.specs.List.{AllByRecursion}
use Rattle.carrier_model.specs.FileTrees.{files_listed, storage_depth, Named}
use Rattle.json_writer.proofs.Counted.{SoFar}
use Rattle.msg_tree.specs.StoreMeaning.{store_of, member_of}
use Rattle.tree_json.specs.Paths.{names_in}
use Rattle.tree_json.specs.Wholes.{MemberHasBytes}
use Rattle.tree_json.proofs.Walks.{texts_at, member_depth}
use Rattle.tree_json.proofs.write_stores.+listing.Given as goal

abbrev pub decreases-write_members : goal.decreases-write_members
decreases-write_members g l = 2 * storage_depth (store_of g.B.Blob.bytes l.store.now).members + 1

abbrev pub decreases-write_member : goal.decreases-write_member
decreases-write_member g l = 2 * member_depth (member_of g.B.Blob.bytes l.member.now)

abbrev pub invariant-write_members-loop-k : goal.invariant-write_members-loop-k
invariant-write_members-loop-k g l =
    SoFar (g.W.Sink.held l.fn.sink) (g.W.Sink.held l.sink) (g.W.Sink.faults l.fn.sink) (g.W.Sink.faults l.sink) l.fn.count l.count (texts_at l.later (names_in l.above) (take l.k (files_listed (store_of g.B.Blob.bytes l.store).members)))
    × AllByRecursion (λ (e : Named). MemberHasBytes e.1) (take l.k (files_listed (store_of g.B.Blob.bytes l.store).members))
