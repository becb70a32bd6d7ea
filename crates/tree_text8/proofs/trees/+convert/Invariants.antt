use Rattle.std.proofs.Common.{◌≡◌, ◌+◌, ◌*◌, length, take, drop}
use Rattle.std.specs.Prelude.{sum_by}
use Rattle.carrier_model.specs.Tree as plain
use Rattle.msg_tree.specs.Meaning.{tree_of, list_of, attached_of}
use Rattle.text8_model.specs.Unicode.{bad_below}
use Rattle.tree_text8.specs.Walks.{converted_attached, props_at, AreOne}
use Rattle.tree_text8.proofs.InPlace.{made_to}
use Rattle.tree_text8.proofs.trees.+convert.Given as goal

abbrev pub decreases-convert_message : goal.decreases-convert_message
decreases-convert_message g l = 3 * plain.depth (tree_of g.C.Blob.bytes l.message.now) + 2

abbrev pub decreases-convert_attachments : goal.decreases-convert_attachments
decreases-convert_attachments g l = 3 * plain.depth_in (plain.attachments_from (list_of g.C.Blob.bytes l.list.now)) + 1

abbrev pub decreases-convert_attachment : goal.decreases-convert_attachment
decreases-convert_attachment g l = 3 * plain.depth_at (attached_of g.C.Blob.bytes l.attachment.now)

abbrev pub invariant-convert_attachments-loop-k : goal.invariant-convert_attachments-loop-k
invariant-convert_attachments-loop-k g l = record {
  made : list_of g.C.Blob.bytes l.list ≡ made_to (converted_attached l.code) (list_of g.C.Blob.bytes l.fn.list) l.k;
  long : length (list_of g.C.Blob.bytes l.list) ≡ length (list_of g.C.Blob.bytes l.fn.list);
  bad : bad_below l.code l.fn.next (plain.attachments_from (list_of g.C.Blob.bytes l.fn.list)) ≡ bad_below l.code (l.fn.next + sum_by props_at (take l.k (list_of g.C.Blob.bytes l.fn.list))) (plain.attachments_from (drop l.k (list_of g.C.Blob.bytes l.fn.list)));
  next : AreOne l.next (l.fn.next + sum_by props_at (take l.k (list_of g.C.Blob.bytes l.fn.list)));
}
