use Rattle.std.proofs.Common.{◌+◌, ◌*◌, drop}
use Rattle.carrier_model.specs.Tree as plain
use Rattle.msg_tree.specs.Keeping.{HasStores, HaveStores}
use Rattle.msg_tree.specs.Meaning.{tree_of, list_of, attached_of}
use Rattle.msg_tree.proofs.store_walk.+walk.Given as goal

abbrev pub decreases-has_stores : goal.decreases-has_stores
decreases-has_stores g l = 2 * plain.depth (tree_of g.B.Blob.bytes l.message.now) + 1

abbrev pub decreases-attachment_has_stores : goal.decreases-attachment_has_stores
decreases-attachment_has_stores g l = 2 * plain.depth_at (attached_of g.B.Blob.bytes l.attachment.now)

abbrev pub invariant-has_stores-loop-k : goal.invariant-has_stores-loop-k
invariant-has_stores-loop-k g l = record {
  into : HaveStores (plain.attachments_from (drop l.k (list_of g.B.Blob.bytes l.attachments))) → HasStores (tree_of g.B.Blob.bytes l.message);
  from : HasStores (tree_of g.B.Blob.bytes l.message) → HaveStores (plain.attachments_from (drop l.k (list_of g.B.Blob.bytes l.attachments)));
}
