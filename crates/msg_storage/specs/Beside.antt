-- What a reader answers, beside what it passes over.
use Rattle.std.specs.Prelude.{◌≡◌, List, ◌++◌, Result, Ok, Err}
use Rattle.carrier_io.specs.Reads.{Fails}
use Rattle.carrier_io.specs.declared.reasons.Stop.{Stop}
use Rattle.carrier_model.specs.Meanings as plain
use Rattle.carrier_model.specs.Meanings.{Meaning, Passed}
use Rattle.carrier_model.specs.Trail.{Fault}
use Rattle.carrier_model.specs.Values.{Prop}
use Rattle.cfb_sectors.specs.Seen.{bytes_of}
use Rattle.cfb_sectors.specs.declared.view.StreamView.{StreamView}
use Rattle.msg_model.specs.MsgMessage.{Carried}
use Rattle.msg_tree.specs.Meaning.{tree_of, list_of, attached_of, body_of}
use Rattle.msg_tree.specs.declared.messages.Attachment.{Attachment}
use Rattle.msg_tree.specs.declared.messages.Attachments.{Attachments}
use Rattle.msg_tree.specs.declared.messages.Body.{Body}
use Rattle.msg_tree.specs.declared.messages.Message.{Message}
use Rattle.msg_storage.specs.Levels.{Rows, Pieces}

-- what reading gives is x, with what was passed over behind what had been passed over before
pub record IsBeside {X Y : Type 0} (view : X → List Passed → Y) (old new : List Passed) (x : X) (read : Result Y Fault) : Type 0 where
  pub more : List Passed
  pub passed : new ≡ old ++ more
  pub gives : read ≡ Ok (view x more)

-- A reader answers what reading gives: a value, or the first fault. It may give up for want of memory.
abbrev pub GivesBeside : {X Y : Type 0} → (X → List Passed → Y) → List Passed → List Passed → Result X Stop → Result Y Fault → Type 0
GivesBeside view old new (Ok x) read = IsBeside view old new x read
GivesBeside view old new (Err e) read = Fails e read

-- ---- what is answered, as plain data

abbrev pub meaning_beside : Message StreamView → List Passed → Meaning
meaning_beside m more = record { message = tree_of bytes_of m; passed = more }

abbrev pub held_beside : Body StreamView → List Passed → plain.Held
held_beside b more = record { body = body_of bytes_of b; passed = more }

abbrev pub carried_beside : Attachment StreamView → List Passed → Carried
carried_beside a more = record { attached = attached_of bytes_of a; passed = more }

abbrev pub rows_beside : List (List Prop) → List Passed → Rows
rows_beside lists more = record { lists = lists; passed = more }

abbrev pub pieces_beside : Attachments StreamView → List Passed → Pieces
pieces_beside l more = record { list = list_of bytes_of l; passed = more }
