-- What the bytes of an attribute give.
use Rattle.std.specs.Prelude.{◌≡◌, ℕ, zero, suc, ◌+◌, ◌++◌, List}
use Rattle.tnef_model.specs.Attributes.{Attr}
use Rattle.carrier_model.specs.Grammar.{Means, Whole}
use Rattle.carrier_model.specs.Meanings.{Held, Passed, held_message}
use Rattle.tnef_model.specs.TnefMessage.{Part, content, refused, behind_interface, object_with, message_within}
use Rattle.carrier_model.specs.Reasons.{TOO_DEEP}
use Rattle.carrier_model.specs.Trail.{Fault}
use Rattle.tnef_message.specs.Drafts.{Fits, plain_gift}
use Rattle.tnef_message.specs.declared.gifts.Gift.{Gift}

-- what an Object with a message means, where so many levels may lie in the message round it
abbrev pub inner_at : ℕ → Whole Held
inner_at zero = refused TOO_DEEP
inner_at (suc n) = behind_interface held_message (message_within n)

abbrev pub objects_at : ℕ → Whole Held
objects_at n = object_with (inner_at n)

-- an attribute's bytes give a part, and what it passes over was added
pub record GivesPart (levels : ℕ) (a : Attr) (old new : List Passed) (gift : Gift) : Type 0 where
  pub given_part : Part
  pub means : Means (content (objects_at levels) a) (a.offset + 9) a.bytes given_part
  pub given : given_part.gift ≡ plain_gift gift
  pub passed : new ≡ old ++ given_part.passed
  pub fits : Fits a.id gift

abbrev pub FailsPart : ℕ → Attr → Fault → Type 0
FailsPart levels a g = (content (objects_at levels) a).fails (a.offset + 9) a.bytes g
