-- What an id stands for.
use Rattle.std.specs.Prelude.{◌≡◌, ℕ, ◌==◌, true, false}
use Rattle.tnef_model.specs.LegacyAttributes.{RENDERING, is_message_id, is_attachment_id}
use Rattle.tnef_message.specs.declared.roles.Role.{Role}
use Rattle.tnef_message.specs.declared.roles.Role.TheVariants.{Message, NewAttachment, Attachment, Unknown}

-- an id of the message's table, the one that begins an attachment, another of the attachments' table, or of neither
abbrev pub IsRole : ℕ → Role → Type 0
IsRole n Message = (is_message_id n ≡ true) × (is_attachment_id n ≡ false) × ((n == RENDERING) ≡ false)
IsRole n NewAttachment = n ≡ RENDERING
IsRole n Attachment = (is_message_id n ≡ false) × (is_attachment_id n ≡ true) × ((n == RENDERING) ≡ false)
IsRole n Unknown = (is_message_id n ≡ false) × (is_attachment_id n ≡ false) × ((n == RENDERING) ≡ false)
