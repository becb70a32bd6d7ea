use Rattle.std.proofs.Common.{◌+◌, ◌*◌, ◌++◌, Ok, take, drop}
use Rattle.std.specs.List.{flat_map}
use Rattle.carrier_io.specs.declared.failures.Failed.{Failed}
use Rattle.carrier_model.specs.Tree as plain
use Rattle.msg_tree.specs.Meaning.{tree_of, list_of, attached_of}
use Rattle.tnef_writer.specs.Carried.{levels_of}
use Rattle.tnef_writer.specs.MessagePlans.{AreOf}
use Rattle.tnef_writer.specs.TreeStores.{stores_at}
use Rattle.tnef_writer.specs.Written.{own_bytes, attachment_bytes}
use Rattle.carrier_io.specs.Summed.{Sums}
use Rattle.tnef_writer.proofs.write_message.+writing.Given as goal

abbrev pub decreases-append_message : goal.decreases-append_message
decreases-append_message g l = 8 * plain.depth (tree_of g.B.Blob.bytes l.message.now) + 7

abbrev pub decreases-append_attachment : goal.decreases-append_attachment
decreases-append_attachment g l = 8 * plain.depth_at (attached_of g.B.Blob.bytes l.attachment.now) + 6

abbrev pub decreases-append_attached : goal.decreases-append_attached
decreases-append_attached g l = 8 * plain.depth_at (attached_of g.B.Blob.bytes l.attachment.now) + 5

abbrev pub decreases-append_carrying : goal.decreases-append_carrying
decreases-append_carrying g l = 8 * levels_of g.B.Blob.bytes l.carried.now + 4

abbrev pub decreases-append_split : goal.decreases-append_split
decreases-append_split g l = 8 * levels_of g.B.Blob.bytes l.carried.now + 3

abbrev pub decreases-append_object : goal.decreases-append_object
decreases-append_object g l = 8 * levels_of g.B.Blob.bytes l.carried.now + 2

abbrev pub decreases-append_held : goal.decreases-append_held
decreases-append_held g l = 8 * levels_of g.B.Blob.bytes l.carried.now + 1

abbrev pub invariant-append_message-loop-k : goal.invariant-append_message-loop-k
invariant-append_message-loop-k g l = record {
  sums : Sums {E = Failed} (g.W.Sink.held l.fn.sink) (g.W.Sink.held l.sink) (g.W.Sink.faults l.fn.sink) (g.W.Sink.faults l.sink) (Ok l.sum) (own_bytes l.names (plain.props_of (tree_of g.B.Blob.bytes l.message)) (plain.recipients_of (tree_of g.B.Blob.bytes l.message)) ++ flat_map (attachment_bytes l.names) (take l.k (list_of g.B.Blob.bytes l.attachments)));
  left : AreOf l.names (flat_map plain.messages_at (drop l.k (list_of g.B.Blob.bytes l.attachments))) (flat_map stores_at (drop l.k (list_of g.B.Blob.bytes l.attachments))) l.left;
}
