-- The message that an opened one means, where bytes_of gives the bytes of a blob.
use Rattle.std.specs.Prelude.{ℕ, List, map}
use Rattle.carrier_model.specs.Tree as plain
use Rattle.carrier_model.specs.Values.{Prop}
use Rattle.msg_tree.specs.Meaning.{body_of, list_of}
use Rattle.tree_edit.specs.ChunkedLists.{listed}
use Rattle.tree_edit.specs.declared.open_props.OpenProps.{OpenProps}
use Rattle.tree_edit.specs.declared.open_props.OpenProps.TheVariants as lists
use Rattle.tree_edit.specs.declared.open_recipients.OpenRecipients.{OpenRecipients}
use Rattle.tree_edit.specs.declared.open_recipients.OpenRecipients.TheVariants as people
use Rattle.tree_edit.specs.declared.open_messages.OpenMessage.{OpenMessage, OpenMessage-F, fold-OpenMessage}
use Rattle.tree_edit.specs.declared.open_messages.OpenBody.{OpenBody, OpenBody-F, fold-OpenBody}
use Rattle.tree_edit.specs.declared.open_messages.OpenAttachment.{OpenAttachment, OpenAttachment-F, fold-OpenAttachment}
use Rattle.tree_edit.specs.declared.open_messages.OpenAttachments.{OpenAttachments, OpenAttachments-F, fold-OpenAttachments}
use Rattle.tree_edit.specs.declared.open_messages.OpenAttachments.TheOpen as part

-- the properties of a list
abbrev pub props_of : {B : Type 0} → OpenProps B → List Prop
props_of (lists.Kept list edits) = list
props_of (lists.Changing changes) = changes.value

-- the recipients of a list
abbrev pub recipients_of : {B : Type 0} → OpenRecipients B → List (List Prop)
recipients_of (people.Kept recipients) = recipients
recipients_of (people.Open rows) = map props_of (listed rows)

module _ {B : Type 0} (bytes_of : B → List ℕ) where
  -- One level, with what the levels below mean in their places.
  abbrev pub open_list_step : {A A' A'' : Type 0} → OpenAttachments-F B A A' plain.Attached A'' → List plain.Attached
  open_list_step (part.Kept list) = list_of bytes_of list
  open_list_step (part.Open rows) = listed rows

  abbrev pub open_body_step : {A A' A'' : Type 0} → OpenBody-F B A A' A'' plain.Message → plain.Body
  open_body_step (part.Read body) = body_of bytes_of body
  open_body_step (part.Message inner) = plain.embedded inner.value

  abbrev pub open_attached_step : {A A' A'' : Type 0} → OpenAttachment-F B A plain.Body A' A'' → plain.Attached
  open_attached_step a = (props_of a.props, a.body)

  abbrev pub open_message_step : {A A' A'' : Type 0} → OpenMessage-F B (List plain.Attached) A A' A'' → plain.Message
  open_message_step m = plain.message (props_of m.props) (recipients_of m.recipients) (plain.attachments_from m.attachments)

  -- the tree of a message
  abbrev pub open_tree_of : OpenMessage B → plain.Message
  open_tree_of = fold-OpenMessage B (List plain.Attached) plain.Body plain.Attached plain.Message open_list_step open_body_step open_attached_step open_message_step

  -- the attachments of a list
  abbrev pub open_list_of : OpenAttachments B → List plain.Attached
  open_list_of = fold-OpenAttachments B (List plain.Attached) plain.Body plain.Attached plain.Message open_list_step open_body_step open_attached_step open_message_step

  -- an attachment
  abbrev pub open_attached_of : OpenAttachment B → plain.Attached
  open_attached_of = fold-OpenAttachment B (List plain.Attached) plain.Body plain.Attached plain.Message open_list_step open_body_step open_attached_step open_message_step

  -- what it holds
  abbrev pub open_body_of : OpenBody B → plain.Body
  open_body_of = fold-OpenBody B (List plain.Attached) plain.Body plain.Attached plain.Message open_list_step open_body_step open_attached_step open_message_step

-- no message is held
abbrev pub HoldsNoMessage : plain.Body → Type 0
HoldsNoMessage plain.nothing = Unit {0}
HoldsNoMessage (plain.embedded inner) = ⊥
HoldsNoMessage (plain.stored store) = Unit {0}
