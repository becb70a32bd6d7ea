use Rattle.std.proofs.Common.{◌≡◌, ◌+◌, ◌*◌, drop}
use Rattle.std.specs.List.{list_any}
use Rattle.carrier_model.specs.Tree as plain
use Rattle.msg_tree.specs.Meaning.{tree_of, list_of, attached_of}
use Rattle.tree_text8.specs.Narrow.{attached_narrow}
use Rattle.tree_text8.proofs.narrow.+narrow.Given as goal

abbrev pub decreases-is_narrow : goal.decreases-is_narrow
decreases-is_narrow g l = 3 * plain.depth (tree_of g.B.Blob.bytes l.message.now) + 2

abbrev pub decreases-any_attachment_is_narrow : goal.decreases-any_attachment_is_narrow
decreases-any_attachment_is_narrow g l = 3 * plain.depth_in (plain.attachments_from (list_of g.B.Blob.bytes l.list.now)) + 1

abbrev pub decreases-attachment_is_narrow : goal.decreases-attachment_is_narrow
decreases-attachment_is_narrow g l = 3 * plain.depth_at (attached_of g.B.Blob.bytes l.attachment.now)

abbrev pub invariant-any_attachment_is_narrow-loop-k : goal.invariant-any_attachment_is_narrow-loop-k
invariant-any_attachment_is_narrow-loop-k g l = list_any attached_narrow (list_of g.B.Blob.bytes l.list) ≡ list_any attached_narrow (drop l.k (list_of g.B.Blob.bytes l.list))
