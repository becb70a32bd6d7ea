-- The parts of a message, each with what is passed over in it.
use Rattle.std.specs.Prelude.{ℕ, zero, suc, List, map, Result, Err}
use Rattle.std.specs.List.{flat_map}
use Rattle.carrier_model.specs.Files.{Files}
use Rattle.carrier_model.specs.Meanings.{Passed}
use Rattle.carrier_model.specs.Outcomes.{mapped}
use Rattle.carrier_model.specs.Reasons.{TOO_DEEP}
use Rattle.carrier_model.specs.Trail.{Fault}
use Rattle.carrier_model.specs.Tree.{Attached}
use Rattle.carrier_model.specs.Turns.{each}
use Rattle.carrier_model.specs.Values.{Prop}
use Rattle.msg_model.specs.MsgMessage.{Carried, Inner, attachment_in, list_in, message_in, numbered}
use Rattle.msg_model.specs.MsgProps.{Section, embedded_message, recipient}
use Rattle.msg_model.specs.NameMap.{Pair}
use Rattle.msg_model.specs.StreamNames.{ATTACHMENT_NAME, RECIPIENT_NAME}

-- an embedded message, where so many levels are left
abbrev pub inner_at : ℕ → List Pair → Inner
inner_at zero pairs place below = Err (TOO_DEEP, place)
inner_at (suc n) pairs place below = message_in n pairs embedded_message below

-- the recipients of a message
pub record Rows : Type 0 where
  pub lists : List (List Prop)
  pub passed : List Passed

abbrev pub rows_of : List Section → Rows
rows_of sections = record { lists = map (λ l. l.props) sections; passed = flat_map (λ l. l.passed) sections }

abbrev pub recipients_in : List Pair → Files → Result Rows Fault
recipients_in pairs s = mapped rows_of (each (list_in recipient pairs) (numbered RECIPIENT_NAME s))

-- its attachments
pub record Pieces : Type 0 where
  pub list : List Attached
  pub passed : List Passed

abbrev pub pieces_of : List Carried → Pieces
pieces_of carried = record { list = map (λ a. a.attached) carried; passed = flat_map (λ a. a.passed) carried }

abbrev pub attachments_in : List Pair → Inner → Files → Result Pieces Fault
attachments_in pairs inner s = mapped pieces_of (each (attachment_in pairs inner) (numbered ATTACHMENT_NAME s))
