-- What a stream gives, and what an Object holds.
use Rattle.std.specs.Prelude.{◌≡◌, ℕ, ◌++◌, List}
use Rattle.carrier_model.specs.Grammar.{Whole}
use Rattle.carrier_model.specs.Meanings as meanings
use Rattle.carrier_model.specs.Meanings.{Meaning, Passed}
use Rattle.tnef_model.specs.TnefMessage.{message_within}
use Rattle.carrier_model.specs.Trail.{Fault}
use Rattle.msg_tree.specs.Meaning.{tree_of, body_of}
use Rattle.msg_tree.specs.declared.messages.Body.{Body}
use Rattle.msg_tree.specs.declared.messages.Message.{Message}
use Rattle.tnef_message.specs.Contents.{inner_at, objects_at}
use Rattle.tnef_message.specs.HeldBytes.{held_bytes}
use Rattle.tnef_message.specs.declared.held.Held.{Held}

-- bytes mean a message, and what they pass over was added
pub record GivesMessage (w : Whole Meaning) (at : ℕ) (bytes : List ℕ) (old new : List Passed) (t : Message Held) : Type 0 where
  pub more : List Passed
  pub means : w.means at bytes (record { message = tree_of held_bytes t; passed = more })
  pub passed : new ≡ old ++ more

-- an Object holds a body, and what it passes over was added
pub record GivesBody (w : Whole meanings.Held) (at : ℕ) (bytes : List ℕ) (old new : List Passed) (body : Body Held) : Type 0 where
  pub more : List Passed
  pub means : w.means at bytes (record { body = body_of held_bytes body; passed = more })
  pub passed : new ≡ old ++ more

abbrev pub stream_fails : ℕ → ℕ → List ℕ → Fault → Type 0
stream_fails levels = (message_within levels).fails

abbrev pub inner_fails : ℕ → ℕ → List ℕ → Fault → Type 0
inner_fails levels = (inner_at levels).fails

abbrev pub objects_fail : ℕ → ℕ → List ℕ → Fault → Type 0
objects_fail levels = (objects_at levels).fails
