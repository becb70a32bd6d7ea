use Rattle.std.proofs.Common.{◌+◌, ◌*◌, take}
use Rattle.carrier_model.specs.Tree.{attachments_from, depth, depth_at, depth_of_body}
use Rattle.msg_model.specs.WrittenMsg.{attachment_files}
use Rattle.msg_nameid.specs.Maps.{names_in}
use Rattle.msg_storage.specs.Written.{Adds}
use Rattle.msg_tree.specs.Meaning.{attached_of, body_of, list_of, tree_of}
use Rattle.msg_storage.proofs.writing.+adding.Given as goal

abbrev pub decreases-add_message : goal.decreases-add_message
decreases-add_message g l = 4 * depth (tree_of g.B.Blob.bytes l.message.now) + 3

abbrev pub decreases-add_attachment : goal.decreases-add_attachment
decreases-add_attachment g l = 4 * depth_at (attached_of g.B.Blob.bytes l.attachment.now) + 2

abbrev pub decreases-add_attached : goal.decreases-add_attached
decreases-add_attached g l = 4 * depth_at (attached_of g.B.Blob.bytes l.attachment.now) + 1

abbrev pub decreases-add_body : goal.decreases-add_body
decreases-add_body g l = 4 * depth_of_body (body_of g.B.Blob.bytes l.body.now)

abbrev pub invariant-add_message-loop-k : goal.invariant-add_message-loop-k
invariant-add_message-loop-k g l = Adds l.initial.files l.files l.at (attachment_files (names_in l.names) 0 (attachments_from (take l.k (list_of g.B.Blob.bytes l.attachments))))
