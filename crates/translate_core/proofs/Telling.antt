-- What a translation tells, of the one message that was accepted.
use Rattle.std.proofs.Common.{◌≡◌, inl, inr, ℕ, ◌≤◌, List, length, Option, None, Result, Ok, Err}
use Rattle.carrier_io.specs.Reads.{MeansOnly, FaultOnly, Reads}
use Rattle.carrier_io.specs.Reasons.{fault_of}
use Rattle.carrier_io.specs.declared.reasons.Stop.{Stop}
use Rattle.carrier_io.specs.declared.reasons.Stop.TheVariants as stops
use Rattle.carrier_io.proofs.Sides.{reads_ok, reads_fault}
use Rattle.carrier_model.specs.Bytes.{AllBytes, MOST_BYTES}
use Rattle.carrier_model.specs.Meanings.{Meaning}
use Rattle.carrier_model.specs.Trail.{Fault, IsExact}
use Rattle.job_model.specs.Acceptance.{Accepts, FaultOf, Carries, CarriesMessage, MessageFault}
use Rattle.job_model.specs.Commands.{Job, wrap, unwrap}
use Rattle.job_model.specs.Targets.{IsResult, passed_limit}
use Rattle.mail_model.specs.Envelope.{Envelope, EnvelopeFault}
use Rattle.tnef_model.specs.TnefMessage.{TnefCarrier, TnefFault}
use Rattle.cfb_layout.specs.declared.version.Version.{Version}
use Rattle.cfb_layout.specs.declared.version.Version.TheVariants.{Three, Four}
use Rattle.translate_core.specs.Jobs.{file_job}
use Rattle.translate_core.specs.Ends.{Puts, Tells, end_of_stop}
use Rattle.translate_core.specs.declared.ends.End.{End}
use Rattle.translate_core.specs.declared.ends.End.TheVariants.{Refused, Unfit, WriteFault, NoMemory}

-- what the laws of this crate say
abbrev pub AreExact : Type 0
AreExact = (job : Job) (b : List ℕ) → IsExact (Accepts job b) (FaultOf job b)

abbrev pub AreCarried : Type 0
AreCarried = (job : Job) (b w : List ℕ) (m : Meaning) → AllBytes b → Accepts job b m → passed_limit job m.message b ≡ None → IsResult job m.message b w → Carries job w m

pub accepted : AreExact → (job : Job) (b : List ℕ) (m : Meaning) → Accepts job b m → MeansOnly (Accepts job b) (FaultOf job b) m
accepted exact job b m a = let e = exact job b in reads_ok (Accepts job b) (FaultOf job b) m e.one e.apart a

pub refused : AreExact → (job : Job) (b : List ℕ) (g : Fault) → FaultOf job b g → FaultOnly (Accepts job b) (FaultOf job b) g
refused exact job b g f = let e = exact job b in reads_fault (Accepts job b) (FaultOf job b) g e.single e.apart f

pub tells : AreExact → AreCarried → (job : Job) (b : List ℕ) (old new : Option (List ℕ)) (m : Meaning) (r : Result (Unit {0}) End) → AllBytes b → Accepts job b m → Puts job m.message b old new r → Tells job b old new r
tells exact carries job b old new m (Ok u) all a p = record { m = m; accepted = accepted exact job b m a; written = p; carries = carries job b p.w m all a p.fits p.is }
tells exact carries job b old new m (Err (Refused g)) all a p = absurd p
tells exact carries job b old new m (Err (Unfit limit)) all a p = record { m = m; accepted = accepted exact job b m a; passes = p }
tells exact carries job b old new m (Err WriteFault) all a p = record { m = m; accepted = accepted exact job b m a; front = p }
tells exact carries job b old new m (Err NoMemory) all a p = tt

-- ---- readers that stopped

-- of a message in either form, by a job that takes both
pub message_stopped : {Y : Type 0} (view : Y → Meaning) → AreExact → (job : Job) (b : List ℕ) (old new : Option (List ℕ)) (s : Stop) → ((g : Fault) → MessageFault b g → FaultOf job b g) → Reads view (Err s) (CarriesMessage b) (MessageFault b) → Tells job b old new (Err (end_of_stop s))
message_stopped view exact job b old new (stops.Fault g) fault r = refused exact job b (fault_of g) (fault (fault_of g) r.is_first)
message_stopped view exact job b old new stops.NoMemory fault r = tt

-- of a stream
pub stream_stopped : {Y : Type 0} (view : Y → Meaning) → AreExact → (b : List ℕ) (old new : Option (List ℕ)) (s : Stop) → length b ≤ MOST_BYTES → Reads view (Err s) (λ m. TnefCarrier b m.message m.passed) (TnefFault b) → Tells wrap b old new (Err (end_of_stop s))
stream_stopped view exact b old new (stops.Fault g) few r = refused exact wrap b (fault_of g) (inr (few, r.is_first))
stream_stopped view exact b old new stops.NoMemory few r = tt

-- of a mail
pub mail_stopped : {Y : Type 0} (view : Y → List ℕ) → AreExact → (b : List ℕ) (old new : Option (List ℕ)) (s : Stop) → length b ≤ MOST_BYTES → Reads view (Err s) (Envelope b) (EnvelopeFault b) → Tells unwrap b old new (Err (end_of_stop s))
mail_stopped view exact b old new (stops.Fault g) few r = refused exact unwrap b (fault_of g) (inr (few, inl r.is_first))
mail_stopped view exact b old new stops.NoMemory few r = tt

-- of the stream in a mail
pub payload_stopped : {Y : Type 0} (view : Y → Meaning) → AreExact → (b p : List ℕ) (old new : Option (List ℕ)) (s : Stop) → length b ≤ MOST_BYTES → Envelope b p → Reads view (Err s) (λ m. TnefCarrier p m.message m.passed) (TnefFault p) → Tells unwrap b old new (Err (end_of_stop s))
payload_stopped view exact b p old new (stops.Fault g) few e r = refused exact unwrap b (fault_of g) (inr (few, inr (record { payload = p; carried = e; fault = r.is_first })))
payload_stopped view exact b p old new stops.NoMemory few e r = tt

pub in_mail : (b p : List ℕ) (m : Meaning) → length b ≤ MOST_BYTES → Envelope b p → TnefCarrier p m.message m.passed → Accepts unwrap b m
in_mail b p m few e c = (few, record { payload = p; carried = e; means = c })

pub takes_file : (v : Version) (b : List ℕ) (m : Meaning) → length b ≤ MOST_BYTES → CarriesMessage b m → Accepts (file_job v) b m
takes_file Three b m few c = (few, c)
takes_file Four b m few c = (few, c)

pub file_fault : (v : Version) (b : List ℕ) → length b ≤ MOST_BYTES → (g : Fault) → MessageFault b g → FaultOf (file_job v) b g
file_fault Three b few g f = inr (few, f)
file_fault Four b few g f = inr (few, f)
