-- What counting the messages of a list gives.
use Rattle.std.specs.Prelude.{◌≡◌, List, length, sum_by}
use Rattle.carrier_model.specs.Tree as plain
use Rattle.carrier_model.specs.Totals.{capped, recipient_count, attachment_count, property_count}
use Rattle.msg_tree.specs.declared.totals.Counts.{Counts}

-- the numbers of some messages, each message counted by itself
pub record IsCountOf (counts : Counts) (list : List plain.Message) : Type 0 where
  pub of_messages : counts.messages ≡ capped (length list)
  pub of_recipients : counts.recipients ≡ capped (sum_by recipient_count list)
  pub of_attachments : counts.attachments ≡ capped (sum_by attachment_count list)
  pub of_properties : counts.properties ≡ capped (sum_by property_count list)
