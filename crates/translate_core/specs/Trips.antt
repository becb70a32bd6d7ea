-- How trips end.
use Rattle.std.specs.Prelude.{◌≡◌, ℕ, List, Option, Some, None, Result, Ok, Err, Vec}
use Rattle.std.specs.Global.{Global}
use Rattle.carrier_io.specs.Reads.{MeansOnly, FaultOnly}
use Rattle.carrier_io.specs.Reasons.{fault_of}
use Rattle.carrier_model.specs.Limits.{Limit}
use Rattle.carrier_model.specs.Meanings.{Meaning}
use Rattle.carrier_model.specs.Tree.{Message}
use Rattle.job_model.specs.Acceptance.{Accepts, FaultOf}
use Rattle.job_model.specs.Commands.{Job, to_msg, to_tnef, wrap, unwrap}
use Rattle.job_model.specs.Targets.{IsResult, passed_limit}
use Rattle.mail_model.specs.EnvelopeText.{envelope_of}
use Rattle.msg_model.specs.WrittenMsg.{msg_of}
use Rattle.msg_tree.specs.Limiting.{limit_of}
use Rattle.tnef_model.specs.TnefCanonical.{tnef_of}
use Rattle.translate_core.specs.Ends.{TooMuch}
use Rattle.translate_core.specs.declared.growing.Growing.{Growing}
use Rattle.translate_core.specs.declared.trips.Trip.{Trip}
use Rattle.translate_core.specs.declared.trips.TripEnd.{TripEnd}
use Rattle.translate_core.specs.declared.trips.TripEnd.TheVariants.{Refused, Unfit, NoMemory}

-- ---- a sink that grows

abbrev pub growing_held : Growing → Option (List ℕ)
growing_held s = Some s.bytes.items

abbrev pub growing_refusals : Growing → ℕ
growing_refusals s = s.refusals

-- ---- one step

-- The bytes are accepted as this message, and as nothing else, and this is the whole result.
pub record Made (job : Job) (bytes w : List ℕ) : Type 0 where
  pub m : Meaning
  pub accepted : MeansOnly (Accepts job bytes) (FaultOf job bytes) m
  pub fits : passed_limit job m.message bytes ≡ None
  pub is : IsResult job m.message bytes w

-- of the step of this number
abbrev pub TellsStep : ℕ → Job → List ℕ → Result (Vec ℕ Global) TripEnd → Type 0
TellsStep step job bytes (Ok v) = Made job bytes v.items
TellsStep step job bytes (Err (Refused g)) = FaultOnly (Accepts job bytes) (FaultOf job bytes) (fault_of g)
TellsStep step job bytes (Err (Unfit at limit)) = (at ≡ step) × TooMuch job bytes (limit_of limit)
TellsStep step job bytes (Err NoMemory) = Unit {0}

-- ---- all steps

-- the number of a step beside the limit that it passes; where it passes none, what a later step passes
abbrev pub passed_at : ℕ → Option Limit → Option (ℕ × Limit) → Option (ℕ × Limit)
passed_at step (Some limit) later = Some (step, limit)
passed_at step None later = later

-- the first step that passes a limit, and that limit, for the message t of bytes; each step takes what the one before wrote
abbrev pub first_passed : Message → List ℕ → Option (ℕ × Limit)
first_passed t bytes =
    passed_at 1 (passed_limit to_tnef t bytes)
    (passed_at 2 (passed_limit wrap t (tnef_of t))
    (passed_at 3 (passed_limit unwrap t (envelope_of (tnef_of t)))
    (passed_at 4 (passed_limit to_msg t (tnef_of t)) None)))

-- The bytes are accepted as this message, and as nothing else, no step passes a limit, and each wrote its canonical bytes:
-- the mail's stream came out as it went in, and the .msg file is the one that is made of the given bytes.
pub record Travelled (bytes : List ℕ) (trip : Trip) : Type 0 where
  pub m : Meaning
  pub accepted : MeansOnly (Accepts to_tnef bytes) (FaultOf to_tnef bytes) m
  pub fits : first_passed m.message bytes ≡ None
  pub tnef : trip.tnef.items ≡ tnef_of m.message
  pub envelope : trip.envelope.items ≡ envelope_of trip.tnef.items
  pub carried : trip.carried.items ≡ trip.tnef.items
  pub msg : trip.msg.items ≡ msg_of m.message

-- They are accepted as a message for which this step is the first that passes a limit.
pub record Halted (bytes : List ℕ) (step : ℕ) (limit : Limit) : Type 0 where
  pub m : Meaning
  pub accepted : MeansOnly (Accepts to_tnef bytes) (FaultOf to_tnef bytes) m
  pub passes : first_passed m.message bytes ≡ Some (step, limit)

-- of bytes in hand; they alone are refused
abbrev pub TellsTrip : List ℕ → Result Trip TripEnd → Type 0
TellsTrip bytes (Ok trip) = Travelled bytes trip
TellsTrip bytes (Err (Refused g)) = FaultOnly (Accepts to_tnef bytes) (FaultOf to_tnef bytes) (fault_of g)
TellsTrip bytes (Err (Unfit step limit)) = Halted bytes step (limit_of limit)
TellsTrip bytes (Err NoMemory) = Unit {0}
