-- What each job takes, what it refuses, and what its output carries, by the bytes alone.
-- [MS-CFB 2.2, MS-OXMSG 2.1, MS-OXTNEF 2.1.3, RFC 2046 5.1]
use Rattle.std.specs.Prelude.{◌≡◌, ◌⊎◌, ℕ, ◌<◌, ◌≤◌, Bool, true, false, List, [], length}
use Rattle.job_model.specs.Commands.{Job, to_msg, to_msg4, to_tnef, wrap, unwrap}
use Rattle.mail_model.specs.Envelope.{Envelope, EnvelopeFault}
use Rattle.job_model.specs.Signatures.{is_signed, is_compound}
use Rattle.msg_model.specs.MsgMessage.{MsgCarrier, MsgFault}
use Rattle.carrier_model.specs.Reasons.{NOT_A_CARRIER, INPUT_TOO_LONG}
use Rattle.carrier_model.specs.Bytes.{MOST_BYTES}
use Rattle.carrier_model.specs.Meanings.{Meaning}
use Rattle.tnef_model.specs.TnefMessage.{TnefCarrier, TnefFault}
use Rattle.carrier_model.specs.Trail.{Fault}

-- ---- a message in either form

-- a .msg file where the bytes begin as a compound file, and else a TNEF stream
abbrev pub MessageBy : Bool → List ℕ → Meaning → Type 0
MessageBy true b m = MsgCarrier b m.message m.passed
MessageBy false b m = TnefCarrier b m.message m.passed

abbrev pub CarriesMessage : List ℕ → Meaning → Type 0
CarriesMessage b m = MessageBy (is_compound b) b m

-- bytes that begin as neither are no carrier
abbrev pub FaultBy : Bool → Bool → List ℕ → Fault → Type 0
FaultBy true signed b g = MsgFault b g
FaultBy false true b g = TnefFault b g
FaultBy false false b g = g ≡ (NOT_A_CARRIER, 0)

abbrev pub MessageFault : List ℕ → Fault → Type 0
MessageFault b g = FaultBy (is_compound b) (is_signed b) b g

-- ---- a message in a mail

-- the mail carries a stream, and that the message
pub record EnvelopeCarrier (b : List ℕ) (m : Meaning) : Type 0 where
  pub payload : List ℕ
  pub carried : Envelope b payload
  pub means : TnefCarrier payload m.message m.passed

-- the stream in the mail has the fault, at an offset of its own
pub record PayloadFault (b : List ℕ) (g : Fault) : Type 0 where
  pub payload : List ℕ
  pub carried : Envelope b payload
  pub fault : TnefFault payload g

-- ---- jobs

abbrev pub TakesFor : Job → List ℕ → Meaning → Type 0
TakesFor to_msg b m = CarriesMessage b m
TakesFor to_msg4 b m = CarriesMessage b m
TakesFor to_tnef b m = CarriesMessage b m
TakesFor wrap b m = TnefCarrier b m.message m.passed
TakesFor unwrap b m = EnvelopeCarrier b m

abbrev pub FaultFor : Job → List ℕ → Fault → Type 0
FaultFor to_msg b g = MessageFault b g
FaultFor to_msg4 b g = MessageFault b g
FaultFor to_tnef b g = MessageFault b g
FaultFor wrap b g = TnefFault b g
FaultFor unwrap b g = EnvelopeFault b g ⊎ PayloadFault b g

-- the bytes are few enough and carry the message, with things passed over
abbrev pub Accepts : Job → List ℕ → Meaning → Type 0
Accepts job b m = (length b ≤ MOST_BYTES) × TakesFor job b m

-- too many bytes, or the first fault of those in hand
abbrev pub FaultOf : Job → List ℕ → Fault → Type 0
FaultOf job b g = ((MOST_BYTES < length b) × (g ≡ (INPUT_TOO_LONG, MOST_BYTES))) ⊎ ((length b ≤ MOST_BYTES) × FaultFor job b g)

-- ---- what is written

-- the output of a job, read
abbrev pub IsReadAs : Job → List ℕ → Meaning → Type 0
IsReadAs to_msg w m = MsgCarrier w m.message m.passed
IsReadAs to_msg4 w m = MsgCarrier w m.message m.passed
IsReadAs to_tnef w m = TnefCarrier w m.message m.passed
IsReadAs wrap w m = EnvelopeCarrier w m
IsReadAs unwrap w m = TnefCarrier w m.message m.passed

-- What was passed over stays where bytes are kept as they are, and is left out where they are made anew.
abbrev pub kept : Job → Meaning → Meaning
kept to_msg m = record { message = m.message; passed = [] }
kept to_msg4 m = record { message = m.message; passed = [] }
kept to_tnef m = record { message = m.message; passed = [] }
kept wrap m = m
kept unwrap m = m

-- The output of a job carries the message, and no other.
pub record Carries (job : Job) (w : List ℕ) (m : Meaning) : Type 0 where
  pub carried : IsReadAs job w (kept job m)
  pub only : (other : Meaning) → IsReadAs job w other → other ≡ kept job m
