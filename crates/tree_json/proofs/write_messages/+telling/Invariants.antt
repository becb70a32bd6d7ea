use Rattle.std.proofs.Common.{◌+◌, ◌*◌, ◌∷◌, map, take, false}
use Rattle.std.specs.List.{AllByRecursion}
use Rattle.carrier_model.specs.Tree as plain
use Rattle.json_model.specs.MessageForms.{attachment_json}
use Rattle.json_writer.proofs.Counted.{SoFar}
use Rattle.msg_tree.specs.Meaning.{tree_of, list_of, attached_of, body_of}
use Rattle.tree_json.specs.Lists.{behind}
use Rattle.tree_json.specs.Wholes.{AttachedIsWhole}
use Rattle.tree_json.proofs.write_messages.+telling.Given as goal

abbrev pub decreases-write_message : goal.decreases-write_message
decreases-write_message g l = 4 * plain.depth (tree_of g.B.Blob.bytes l.message.now) + 3

abbrev pub decreases-write_attachments : goal.decreases-write_attachments
decreases-write_attachments g l = 4 * plain.depth_in (plain.attachments_from (list_of g.B.Blob.bytes l.list.now)) + 2

abbrev pub decreases-write_attachment : goal.decreases-write_attachment
decreases-write_attachment g l = 4 * plain.depth_at (attached_of g.B.Blob.bytes l.attachment.now) + 1

abbrev pub decreases-write_embedded : goal.decreases-write_embedded
decreases-write_embedded g l = 4 * plain.depth_of_body (body_of g.B.Blob.bytes l.body.now)

abbrev pub invariant-write_attachments-loop-k : goal.invariant-write_attachments-loop-k
invariant-write_attachments-loop-k g l =
    SoFar (g.W.Sink.held l.fn.sink) (g.W.Sink.held l.sink) (g.W.Sink.faults l.fn.sink) (g.W.Sink.faults l.sink) l.fn.count l.count (91 ∷ behind false (map attachment_json (take l.k (list_of g.B.Blob.bytes l.list))))
    × AllByRecursion AttachedIsWhole (take l.k (list_of g.B.Blob.bytes l.list))
