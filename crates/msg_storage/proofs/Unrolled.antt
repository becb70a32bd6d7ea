-- The meaning of one level, by the meanings of the levels below.
use Rattle.std.proofs.Common.{◌≡◌, ℕ, List}
use Rattle.carrier_model.specs.Tree as plain
use Rattle.msg_tree.specs.Meaning.{body_step, attached_step, list_step, message_step, tree_of, list_of, attached_of, body_of}
use Rattle.msg_tree.specs.declared.messages.Attachment.{Attachment, out-Attachment, fold_out-Attachment}
use Rattle.msg_tree.specs.declared.messages.Message.{Message, out-Message, fold_out-Message}

module _ {B : Type 0} (bytes_of : B → List ℕ) where
  pub tree_out : (m : Message B) → tree_of bytes_of m ≡ plain.message (out-Message B m).props (out-Message B m).recipients (plain.attachments_from (list_of bytes_of (out-Message B m).attachments))
  tree_out = fold_out-Message B plain.Body plain.Attached (List plain.Attached) plain.Message (body_step bytes_of) (attached_step bytes_of) (list_step bytes_of) (message_step bytes_of)

  pub attached_out : (a : Attachment B) → attached_of bytes_of a ≡ ((out-Attachment B a).props, body_of bytes_of (out-Attachment B a).body)
  attached_out = fold_out-Attachment B plain.Body plain.Attached (List plain.Attached) plain.Message (body_step bytes_of) (attached_step bytes_of) (list_step bytes_of) (message_step bytes_of)
