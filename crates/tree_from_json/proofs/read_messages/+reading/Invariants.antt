use Rattle.std.proofs.Common.{◌≡◌, ◌+◌, ◌*◌, length}
use Rattle.json_model.specs.MessageForms.{read_attachment, read_within}
use Rattle.msg_tree.specs.Meaning.{list_of}
use Rattle.tree_from_json.proofs.Turns.{InTurn}
use Rattle.tree_from_json.proofs.read_messages.+reading.Given as goal

abbrev pub decreases-read_message : goal.decreases-read_message
decreases-read_message l = 4 * l.levels

abbrev pub decreases-read_attachments : goal.decreases-read_attachments
decreases-read_attachments l = 4 * l.levels + 3

abbrev pub decreases-read_attachment : goal.decreases-read_attachment
decreases-read_attachment l = 4 * l.levels + 2

abbrev pub decreases-read_embedding : goal.decreases-read_embedding
decreases-read_embedding l = 4 * l.levels + 1

abbrev pub invariant-read_attachments-loop-k : goal.invariant-read_attachments-loop-k
invariant-read_attachments-loop-k l = record {
  count : length (list_of (λ b. b.items) l.all) ≡ l.k;
  turns : InTurn (λ before. read_attachment (read_within l.levels)) (list_of (λ b. b.items) l.all) l.k l.values;
}
