-- How translations end.
use Rattle.std.specs.Prelude.{◌≡◌, ℕ, ◌≤◌, List, ◌++◌, Option, Some, None, Result, Ok, Err}
use Rattle.std.specs.Io.KnownBytes.{Appends}
use Rattle.carrier_io.specs.Causes.{Rose}
use Rattle.carrier_io.specs.Known.{AppendsFront}
use Rattle.carrier_io.specs.Reads.{MeansOnly, FaultOnly}
use Rattle.carrier_io.specs.Reasons.{fault_of}
use Rattle.carrier_io.specs.declared.reasons.Stop.{Stop}
use Rattle.carrier_io.specs.declared.reasons.Stop.TheVariants as stops
use Rattle.carrier_model.specs.Limits as limits
use Rattle.carrier_model.specs.Limits.{first_limit, msg_limits}
use Rattle.carrier_model.specs.Meanings.{Meaning}
use Rattle.carrier_model.specs.Tree.{Message}
use Rattle.job_model.specs.Acceptance.{Accepts, FaultOf, Carries}
use Rattle.job_model.specs.Commands.{Job}
use Rattle.job_model.specs.Targets.{IsResult, passed_limit, passed_size}
use Rattle.msg_model.specs.WrittenMsg.{msg_in}
use Rattle.msg_tree.specs.Limiting.{limit_of}
use Rattle.translate_core.specs.declared.ends.End.{End}
use Rattle.translate_core.specs.declared.ends.End.TheVariants.{Refused, Unfit, WriteFault, NoMemory}
use Rattle.translate_core.specs.declared.ends.MsgEnd.{MsgEnd}
use Rattle.translate_core.specs.declared.ends.MsgEnd.TheVariants as files
use Rattle.translate_core.specs.declared.ends.PutEnd.{PutEnd}
use Rattle.translate_core.specs.declared.ends.PutEnd.TheVariants as puts

-- ---- .msg files

-- the first limit that a message passes as a .msg file in sectors of z bytes
abbrev pub file_limit : ℕ → Message → Option limits.Limit
file_limit z t = first_limit (msg_limits t ++ passed_size (msg_in z t))

-- why there is none
abbrev pub FileEnds : ℕ → Message → MsgEnd → Type 0
FileEnds z t (files.Unfit limit) = file_limit z t ≡ Some (limit_of limit)
FileEnds z t files.NoMemory = Unit {0}

-- ---- ends

abbrev pub end_of_stop : Stop → End
end_of_stop (stops.Fault g) = Refused g
end_of_stop stops.NoMemory = NoMemory

-- what was written of a message, as a translation ends
abbrev pub ended : Result (Unit {0}) PutEnd → Result (Unit {0}) End
ended (Ok u) = Ok u
ended (Err (puts.Unfit limit)) = Err (Unfit limit)
ended (Err puts.WriteFault) = Err WriteFault
ended (Err puts.NoMemory) = Err NoMemory

-- The whole result of a job was appended, for a message that passes no limit.
pub record Written (job : Job) (t : Message) (bytes : List ℕ) (old new : Option (List ℕ)) : Type 0 where
  pub fits : passed_limit job t bytes ≡ None
  pub w : List ℕ
  pub is : IsResult job t bytes w
  pub appended : Appends old new w

-- A front of it was.
pub record CutOff (job : Job) (t : Message) (bytes : List ℕ) (old new : Option (List ℕ)) : Type 0 where
  pub fits : passed_limit job t bytes ≡ None
  pub w : List ℕ
  pub is : IsResult job t bytes w
  pub appended : AppendsFront old new w

-- of the message that is written, and of what the output held before and holds after
abbrev pub Puts : Job → Message → List ℕ → Option (List ℕ) → Option (List ℕ) → Result (Unit {0}) End → Type 0
Puts job t bytes old new (Ok u) = Written job t bytes old new
Puts job t bytes old new (Err (Refused g)) = ⊥
Puts job t bytes old new (Err (Unfit limit)) = passed_limit job t bytes ≡ Some (limit_of limit)
Puts job t bytes old new (Err WriteFault) = CutOff job t bytes old new
Puts job t bytes old new (Err NoMemory) = Unit {0}

-- The bytes are accepted as this message, and as nothing else; all of the result was appended, and what is written carries
-- the message, and no other.
pub record Translated (job : Job) (bytes : List ℕ) (old new : Option (List ℕ)) : Type 0 where
  pub m : Meaning
  pub accepted : MeansOnly (Accepts job bytes) (FaultOf job bytes) m
  pub written : Written job m.message bytes old new
  pub carries : Carries job written.w m

-- The bytes are accepted as a message that passes this limit first.
pub record TooMuch (job : Job) (bytes : List ℕ) (limit : limits.Limit) : Type 0 where
  pub m : Meaning
  pub accepted : MeansOnly (Accepts job bytes) (FaultOf job bytes) m
  pub passes : passed_limit job m.message bytes ≡ Some limit

-- They are accepted, and a front of the result was appended.
pub record Broken (job : Job) (bytes : List ℕ) (old new : Option (List ℕ)) : Type 0 where
  pub m : Meaning
  pub accepted : MeansOnly (Accepts job bytes) (FaultOf job bytes) m
  pub front : CutOff job m.message bytes old new

-- of bytes in hand, and of what the output held before and holds after
abbrev pub Tells : Job → List ℕ → Option (List ℕ) → Option (List ℕ) → Result (Unit {0}) End → Type 0
Tells job bytes old new (Ok u) = Translated job bytes old new
Tells job bytes old new (Err (Refused g)) = FaultOnly (Accepts job bytes) (FaultOf job bytes) (fault_of g)
Tells job bytes old new (Err (Unfit limit)) = TooMuch job bytes (limit_of limit)
Tells job bytes old new (Err WriteFault) = Broken job bytes old new
Tells job bytes old new (Err NoMemory) = Unit {0}

-- after a refusal, a limit or want of memory the output is as it was
abbrev pub WritesNothing : {W : Type 0} → Result (Unit {0}) End → W → W → Type 0
WritesNothing (Ok u) old new = Unit {0}
WritesNothing (Err (Refused g)) old new = new ≡ old
WritesNothing (Err (Unfit limit)) old new = new ≡ old
WritesNothing (Err WriteFault) old new = Unit {0}
WritesNothing (Err NoMemory) old new = new ≡ old

-- the output's count of faults does not fall, and it rose where the output failed
pub record Caused (before now : ℕ) (result : Result (Unit {0}) End) : Type 0 where
  pub later : before ≤ now
  pub fault : result ≡ Err WriteFault → Rose before now
