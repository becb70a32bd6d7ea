use Rattle.std.proofs.Common.{◌≡◌, ◌+◌, ◌*◌, drop, flat_map}
use Rattle.carrier_model.specs.Limits.{first_limit, passed_by}
use Rattle.carrier_model.specs.Tree as plain
use Rattle.msg_tree.specs.Meaning.{tree_of, list_of, attached_of}
use Rattle.msg_tree.proofs.target_limits.+limits.Given as goal

abbrev pub decreases-first_passed : goal.decreases-first_passed
decreases-first_passed g l = 2 * plain.depth (tree_of g.B.Blob.bytes l.message.now) + 1

abbrev pub decreases-passed_at : goal.decreases-passed_at
decreases-passed_at g l = 2 * plain.depth_at (attached_of g.B.Blob.bytes l.attachment.now)

abbrev pub invariant-first_passed-loop-k : goal.invariant-first_passed-loop-k
invariant-first_passed-loop-k g l = first_limit (flat_map passed_by (plain.messages_below (plain.attachments_from (drop l.k (list_of g.B.Blob.bytes l.attachments))))) ≡ first_limit (flat_map passed_by (plain.messages_in (tree_of g.B.Blob.bytes l.message)))
