-- Bytes are accepted as one message, or refused for one fault, for each job that takes them as they are.
use Rattle.std.proofs.Common.{◌≡◌, inl, inr, ℕ, ◌≤◌, true, false, List, length, sym, ◌∙◌, refl, arith}
use Rattle.std.specs.Prelude.{Bool}
use Rattle.job_model.specs.Acceptance.{MessageBy, FaultBy, CarriesMessage, MessageFault, Accepts, FaultOf, TakesFor, FaultFor}
use Rattle.job_model.specs.Commands.{Job, to_msg, to_msg4, to_tnef, wrap}
use Rattle.job_model.specs.Signatures.{is_signed, is_compound}
use Rattle.carrier_model.specs.Reasons.{NOT_A_CARRIER}
use Rattle.carrier_model.specs.Bytes.{MOST_BYTES}
use Rattle.carrier_model.specs.Meanings.{Meaning}
use Rattle.tnef_model.specs.TnefMessage.{TnefCarrier, TnefFault, message_within}
use Rattle.carrier_model.specs.Trail.{Fault, IsExact}
use Rattle.tnef_model.specs.Attributes.{head_tests}
use Rattle.carrier_model.proofs.Tests.{passing}
use Rattle.msg_model.proofs.MsgMessage.{carriers_exact}
use Rattle.tnef_model.proofs.Stream.{parts_of}
use Rattle.tnef_model.proofs.TnefMessage.{message_exact}

-- a stream that means something is signed
pub signed : (b : List ℕ) (m : Meaning) → TnefCarrier b m.message m.passed → is_signed b ≡ true
unfolding message_within
signed b m p = (passing (head_tests 0 b) (parts_of 0 b p.attrs p.there).head).0

tnef_exact : (b : List ℕ) → IsExact (λ (m : Meaning). TnefCarrier b m.message m.passed) (TnefFault b)
tnef_exact b = message_exact 32 0 b

-- what begins as neither means nothing
none_exact : (b : List ℕ) → is_signed b ≡ false → IsExact (λ (m : Meaning). TnefCarrier b m.message m.passed) (λ g. g ≡ (NOT_A_CARRIER, 0))
none_exact b unsigned = record {
  one = (tnef_exact b).one;
  single = λ g h p q. q ∙ sym p;
  apart = λ m g p q. cc (signed b m p, unsigned);
}

by_front : (compound sign : Bool) (b : List ℕ) → sign ≡ is_signed b → length b ≤ MOST_BYTES → IsExact (MessageBy compound b) (FaultBy compound sign b)
by_front true sign b is few = carriers_exact b few
by_front false true b is few = tnef_exact b
by_front false false b is few = none_exact b (sym is)

-- in either form of a message
pub forms_exact : (b : List ℕ) → length b ≤ MOST_BYTES → IsExact (CarriesMessage b) (MessageFault b)
forms_exact b few = by_front (is_compound b) (is_signed b) b refl few

-- the fault of too many bytes stands apart
within : (job : Job) (b : List ℕ) → (length b ≤ MOST_BYTES → IsExact (TakesFor job b) (FaultFor job b)) → IsExact (Accepts job b) (FaultOf job b)
within job b exact = record {
  one = λ x y p q. (exact p.0).one x y p.1 q.1;
  single = single;
  apart = apart;
}
  where
    single : (g h : Fault) → FaultOf job b g → FaultOf job b h → h ≡ g
    single g h (inl p) (inl q) = q.1 ∙ sym p.1
    single g h (inl p) (inr q) = absurd (omega (arith, p.0, q.0))
    single g h (inr p) (inl q) = absurd (omega (arith, p.0, q.0))
    single g h (inr p) (inr q) = (exact p.0).single g h p.1 q.1

    apart : (m : Meaning) (g : Fault) → Accepts job b m → FaultOf job b g → ⊥
    apart m g p (inl q) = omega (arith, p.0, q.0)
    apart m g p (inr q) = (exact p.0).apart m g p.1 q.1

pub to_msg_exact : (b : List ℕ) → IsExact (Accepts to_msg b) (FaultOf to_msg b)
to_msg_exact b = within to_msg b (by_front (is_compound b) (is_signed b) b refl)

pub to_msg4_exact : (b : List ℕ) → IsExact (Accepts to_msg4 b) (FaultOf to_msg4 b)
to_msg4_exact b = within to_msg4 b (by_front (is_compound b) (is_signed b) b refl)

pub to_tnef_exact : (b : List ℕ) → IsExact (Accepts to_tnef b) (FaultOf to_tnef b)
to_tnef_exact b = within to_tnef b (by_front (is_compound b) (is_signed b) b refl)

pub wrap_exact : (b : List ℕ) → IsExact (Accepts wrap b) (FaultOf wrap b)
wrap_exact b = within wrap b (λ few. tnef_exact b)
