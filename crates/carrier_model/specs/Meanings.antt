-- What a carrier means: a message, and what was passed over beside it.
use Rattle.std.specs.Prelude.{ℕ, Bool, List, []}
use Rattle.carrier_model.specs.Tree.{Message, Body, embedded, stored}
use Rattle.carrier_model.specs.FileTrees.{Store}

-- what was passed over: whether it is an attribute, its id or tag, and its place
abbrev pub Passed : Type 0
Passed = Bool × ℕ × ℕ

-- a message, and what its stream has beside it, in reading order
pub record Meaning : Type 0 where
  pub message : Message
  pub passed : List Passed

-- what an attachment holds, and what was passed over in it
pub record Held : Type 0 where
  pub body : Body
  pub passed : List Passed

-- a message with what was passed over in it, and a store, in which nothing is
abbrev pub held_message : Meaning → Held
held_message m = record { body = embedded m.message; passed = m.passed }

abbrev pub held_store : Store → Held
held_store x = record { body = stored x; passed = [] }
