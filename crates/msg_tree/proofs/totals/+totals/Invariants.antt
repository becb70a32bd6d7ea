use Rattle.std.proofs.Common.{◌+◌, ◌*◌, ◌∷◌, take, flat_map}
use Rattle.carrier_model.specs.Tree as plain
use Rattle.msg_tree.specs.Counting.{IsCountOf}
use Rattle.msg_tree.specs.Meaning.{tree_of, list_of, attached_of}
use Rattle.msg_tree.proofs.totals.+totals.Given as goal

abbrev pub decreases-count_message : goal.decreases-count_message
decreases-count_message g l = 2 * plain.depth (tree_of g.B.Blob.bytes l.message.now) + 1

abbrev pub decreases-count_attachment : goal.decreases-count_attachment
decreases-count_attachment g l = 2 * plain.depth_at (attached_of g.B.Blob.bytes l.attachment.now)

abbrev pub invariant-count_message-loop-k : goal.invariant-count_message-loop-k
invariant-count_message-loop-k g l = IsCountOf l.totals (tree_of g.B.Blob.bytes l.message ∷ flat_map plain.messages_at (take l.k (list_of g.B.Blob.bytes l.attachments)))
