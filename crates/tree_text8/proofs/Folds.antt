-- What messages and attachments mean, by their parts.
use Rattle.std.proofs.Common.{◌≡◌, ◌∙◌, ap, ℕ, List}
use Rattle.std.specs.declared.boxed.Box.{Box}
use Rattle.std.specs.declared.alloc.Global.{Global}
use Rattle.carrier_model.specs.Tree as plain
use Rattle.msg_tree.specs.Meaning.{tree_of, list_of, attached_of, body_of, body_step, attached_step, list_step, message_step}
use Rattle.msg_tree.specs.declared.messages.Attachment.{Attachment, Attachment-F, out-Attachment, roll-Attachment, fold-roll-Attachment}
use Rattle.msg_tree.specs.declared.messages.Attachments.{Attachments}
use Rattle.msg_tree.specs.declared.messages.Body as held
use Rattle.msg_tree.specs.declared.messages.Body.{Body, fold_out-Body}
use Rattle.msg_tree.specs.declared.messages.Message.{Message, Message-F, roll-Message, fold-roll-Message}
use Rattle.prop_values.specs.declared.prop_list.Props.{Props}
use Rattle.msg_tree.proofs.Unrolled.{attached_out}

module _ {B : Type 0} (bytes_of : B → List ℕ) where
  pub message_rolled : (r : Message-F B (Body B) (Attachment B) (Attachments B) (Message B)) → tree_of bytes_of (roll-Message B r) ≡ plain.message r.props r.recipients (plain.attachments_from (list_of bytes_of r.attachments))
  message_rolled = fold-roll-Message B plain.Body plain.Attached (List plain.Attached) plain.Message (body_step bytes_of) (attached_step bytes_of) (list_step bytes_of) (message_step bytes_of)

  message_made : (b : Box (Message B) Global) → body_of bytes_of (held.Message b) ≡ plain.embedded (tree_of bytes_of b.value)
  unfolding held.out-Body denote.Hole.Carrier.out
  message_made b = fold_out-Body B plain.Body plain.Attached (List plain.Attached) plain.Message (body_step bytes_of) (attached_step bytes_of) (list_step bytes_of) (message_step bytes_of) (held.Message b)

  -- an attachment that holds a message
  pub message_at : (a : Attachment B) (b : Box (Message B) Global) → (out-Attachment B a).body ≡ held.Message b → attached_of bytes_of a ≡ ((out-Attachment B a).props, plain.embedded (tree_of bytes_of b.value))
  message_at a b e = attached_out bytes_of a ∙ ap (λ x. ((out-Attachment B a).props, x)) (ap (body_of bytes_of) e ∙ message_made b)

  -- one that is made of another
  pub attached_rolled : (r : Attachment-F B (Body B) (Attachment B) (Attachments B) (Message B)) → attached_of bytes_of (roll-Attachment B r) ≡ (r.props, body_of bytes_of r.body)
  attached_rolled = fold-roll-Attachment B plain.Body plain.Attached (List plain.Attached) plain.Message (body_step bytes_of) (attached_step bytes_of) (list_step bytes_of) (message_step bytes_of)

  pub message_put : (props : Props B) (b : Box (Message B) Global) → attached_of bytes_of (roll-Attachment B (record { props = props; body = held.Message b })) ≡ (props, plain.embedded (tree_of bytes_of b.value))
  message_put props b = attached_rolled (record { props = props; body = held.Message b }) ∙ ap (λ x. (props, x)) (message_made b)
