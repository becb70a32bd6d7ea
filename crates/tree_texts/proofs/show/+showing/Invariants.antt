use Rattle.std.proofs.Common.{◌+◌, ◌*◌, drop}
use Rattle.carrier_model.specs.Tree as plain
use Rattle.text_model.specs.TreeTexts.{message_lines}
use Rattle.msg_tree.specs.Meaning.{tree_of, list_of, attached_of}
use Rattle.tree_texts.proofs.Bodies.{lines_from}
use Rattle.tree_texts.proofs.Partly.{Partly}
use Rattle.tree_texts.proofs.show.+showing.Given as goal

abbrev pub decreases-write_message : goal.decreases-write_message
decreases-write_message g l = 2 * plain.depth (tree_of g.B.Blob.bytes l.message.now) + 1

abbrev pub decreases-write_attachment : goal.decreases-write_attachment
decreases-write_attachment g l = 2 * plain.depth_at (attached_of g.B.Blob.bytes l.attachment.now)

abbrev pub invariant-write_message-loop-k : goal.invariant-write_message-loop-k
invariant-write_message-loop-k g l = Partly (g.W.Sink.held l.fn.sink) (g.W.Sink.held l.sink) (g.W.Sink.faults l.fn.sink) (g.W.Sink.faults l.sink) (message_lines l.indent (tree_of g.B.Blob.bytes l.message)) (lines_from (l.indent + 2) l.k (drop l.k (list_of g.B.Blob.bytes l.attachments)))
