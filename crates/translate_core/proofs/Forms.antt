-- What a reader of either form has shown.
use Rattle.std.proofs.Common.{◌≡◌, ℕ, ◌≤◌, true, false, List, length, Ok, Err, refl, sym, subst}
use Rattle.carrier_io.specs.declared.reasons.Stop.{Stop}
use Rattle.carrier_io.specs.declared.reasons.Stop.TheVariants as stops
use Rattle.carrier_io.specs.Reads.{Fails, FaultOnly, MeansOnly, Reads}
use Rattle.carrier_io.specs.Reasons.{fault_of}
use Rattle.carrier_io.proofs.Sides.{reads_ok, reads_fault}
use Rattle.carrier_model.specs.Bytes.{MOST_BYTES}
use Rattle.carrier_model.specs.Meanings.{Meaning}
use Rattle.carrier_model.specs.Reasons.{NOT_A_CARRIER}
use Rattle.carrier_model.specs.Trail.{Fault}
use Rattle.job_model.specs.Acceptance.{CarriesMessage, FaultBy, MessageBy, MessageFault}
use Rattle.job_model.specs.Signatures.{is_compound, is_signed}
use Rattle.job_model.proofs.Acceptance.{forms_exact}
use Rattle.msg_model.specs.MsgMessage.{file_meaning}
use Rattle.msg_model.proofs.MsgMessage.{carrier-sound}
use Rattle.tnef_model.specs.TnefMessage.{TnefCarrier, TnefFault}

carries : (b : List ℕ) (m : Meaning) → length b ≤ MOST_BYTES → CarriesMessage b m → MeansOnly (CarriesMessage b) (MessageFault b) m
carries b m few c = let e = forms_exact b few in reads_ok (CarriesMessage b) (MessageFault b) m e.one e.apart c

refuses : (b : List ℕ) (g : Fault) → length b ≤ MOST_BYTES → MessageFault b g → FaultOnly (CarriesMessage b) (MessageFault b) g
refuses b g few f = let e = forms_exact b few in reads_fault (CarriesMessage b) (MessageFault b) g e.single e.apart f

pub file_read : (b : List ℕ) (m : Meaning) → length b ≤ MOST_BYTES → is_compound b ≡ true → file_meaning b ≡ Ok m → MeansOnly (CarriesMessage b) (MessageFault b) m
file_read b m few is e = carries b m few (subst (λ k. MessageBy k b m) (sym is) (carrier-sound b m e))

pub file_stopped : {Y : Type 0} (view : Y → Meaning) (b : List ℕ) (s : Stop) → length b ≤ MOST_BYTES → is_compound b ≡ true → Fails s (file_meaning b) → Reads view (Err s) (CarriesMessage b) (MessageFault b)
file_stopped view b (stops.Fault g) few is e = refuses b (fault_of g) few (subst (λ k. FaultBy k (is_signed b) b (fault_of g)) (sym is) e)
file_stopped view b stops.NoMemory few is e = tt

pub stream_read : (b : List ℕ) (m : Meaning) → length b ≤ MOST_BYTES → is_compound b ≡ false → TnefCarrier b m.message m.passed → MeansOnly (CarriesMessage b) (MessageFault b) m
stream_read b m few is c = carries b m few (subst (λ k. MessageBy k b m) (sym is) c)

pub stream_stopped : {Y : Type 0} (view : Y → Meaning) (b : List ℕ) (s : Stop) → length b ≤ MOST_BYTES → is_compound b ≡ false → is_signed b ≡ true → Reads view (Err s) (λ m. TnefCarrier b m.message m.passed) (TnefFault b) → Reads view (Err s) (CarriesMessage b) (MessageFault b)
stream_stopped view b (stops.Fault g) few is signed e = refuses b (fault_of g) few (subst (λ k. FaultBy k (is_signed b) b (fault_of g)) (sym is) (subst (λ k. FaultBy false k b (fault_of g)) (sym signed) e.is_first))
stream_stopped view b stops.NoMemory few is signed e = tt

pub neither : (b : List ℕ) → length b ≤ MOST_BYTES → is_compound b ≡ false → is_signed b ≡ false → FaultOnly (CarriesMessage b) (MessageFault b) (NOT_A_CARRIER, 0)
neither b few is unsigned = refuses b (NOT_A_CARRIER, 0) few (subst (λ k. FaultBy k (is_signed b) b (NOT_A_CARRIER, 0)) (sym is) (subst (λ k. FaultBy false k b (NOT_A_CARRIER, 0)) (sym unsigned) refl))
