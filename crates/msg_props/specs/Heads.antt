-- Heads of lists that are written.
use Rattle.std.specs.Prelude.{ℕ, true, false, List, replicate}
use Rattle.msg_model.specs.WrittenMsg.{head_of}
use Rattle.msg_props.specs.declared.writing.Head.{Head}
use Rattle.prop_values.specs.declared.props.Part.TheVariants.{Top, Embedded, Recipient, Attachment}
use Rattle.prop_values.specs.declared.props.Part.{Part}

abbrev pub head_at : Part → ℕ → ℕ → List ℕ
head_at Top recipients attachments = head_of true recipients attachments
head_at Embedded recipients attachments = head_of false recipients attachments
head_at Recipient recipients attachments = replicate 8 0
head_at Attachment recipients attachments = replicate 8 0

abbrev pub head_bytes : Head → List ℕ
head_bytes head = head_at head.part head.recipients head.attachments
