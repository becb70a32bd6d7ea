-- What is written carries the message that was accepted.
use Rattle.std.proofs.Common.{◌≡◌, ◌↔◌, ℕ, List, None, ap}
use Rattle.carrier_model.specs.Bytes.{AllBytes}
use Rattle.carrier_model.specs.Meanings.{Meaning}
use Rattle.carrier_model.specs.Tree.{Message, GREATEST_LEVEL}
use Rattle.job_model.specs.Acceptance.{Accepts, Carries, kept}
use Rattle.job_model.specs.Commands.{Job, to_msg, to_msg4, to_tnef, wrap, unwrap}
use Rattle.job_model.specs.Targets.{IsResult, passed_limit}
use Rattle.job_model.proofs.Results.{to_msg_carries, to_msg4_carries, to_tnef_carries}
use Rattle.mail_model.specs.EnvelopeText.{envelope_of}
use Rattle.tnef_model.proofs.TnefMessage.{message_exact}
use Rattle.tnef_model.specs.TnefMessage.{TnefCarrier}
use Rattle.translate_core.proofs.Exact.{Mails, one_payload}
use Rattle.translate_core.specs.Jobs.{MakesAnew}

wrap_carries : Mails → (b : List ℕ) (m : Meaning) → AllBytes b → Accepts wrap b m → Carries wrap (envelope_of b) m
wrap_carries mails b m all a = record {
  carried = record { payload = b; carried = mails.carried b all; means = a.1 };
  only = λ other c. (message_exact GREATEST_LEVEL 0 b).one m other a.1 (let same : c.payload ≡ b = mails.only b c.payload all c.carried in rw (← same) c.means);
}

unwrap_carries : Mails → (b w : List ℕ) (m : Meaning) → Accepts unwrap b m → IsResult unwrap m.message b w → Carries unwrap w m
unwrap_carries mails b w m a is =
    let same = one_payload mails b w a.1.payload is a.1.carried in
    let own : TnefCarrier w m.message m.passed = rw (← same) a.1.means in
    record { carried = own; only = λ other c. (message_exact GREATEST_LEVEL 0 w).one m other own c }

pub carries : Mails → (job : Job) (b w : List ℕ) (m : Meaning) → AllBytes b → Accepts job b m → passed_limit job m.message b ≡ None → IsResult job m.message b w → Carries job w m
carries mails to_msg b w m all a none is = rw is (to_msg_carries b m all a none)
carries mails to_msg4 b w m all a none is = rw is (to_msg4_carries b m all a none)
carries mails to_tnef b w m all a none is = rw is (to_tnef_carries b m all a none)
carries mails wrap b w m all a none is = rw is (wrap_carries mails b m all a)
carries mails unwrap b w m all a none is = unwrap_carries mails b w m a is

-- ---- equal bytes, and equal messages

same_message : (job : Job) (m n : Meaning) → kept job m ≡ kept job n → m.message ≡ n.message
same_message to_msg m n e = ap (λ (k : Meaning). k.message) e
same_message to_msg4 m n e = ap (λ (k : Meaning). k.message) e
same_message to_tnef m n e = ap (λ (k : Meaning). k.message) e
same_message wrap m n e = ap (λ (k : Meaning). k.message) e
same_message unwrap m n e = ap (λ (k : Meaning). k.message) e

same_bytes : (job : Job) (b c v w : List ℕ) (t u : Message) → MakesAnew job → IsResult job t b v → IsResult job u c w → t ≡ u → v ≡ w
same_bytes to_msg b c v w t u anew p q e = cc
same_bytes to_msg4 b c v w t u anew p q e = cc
same_bytes to_tnef b c v w t u anew p q e = cc
same_bytes wrap b c v w t u anew p q e = absurd anew
same_bytes unwrap b c v w t u anew p q e = absurd anew

pub equal : Mails → (job : Job) (b c v w : List ℕ) (m n : Meaning) → MakesAnew job → AllBytes b → AllBytes c → Accepts job b m → Accepts job c n → passed_limit job m.message b ≡ None → passed_limit job n.message c ≡ None → IsResult job m.message b v → IsResult job n.message c w → (v ≡ w) ↔ (m.message ≡ n.message)
equal mails job b c v w m n anew all also a d none fits is its =
    let one = carries mails job b v m all a none is in
    let other = carries mails job c w n also d fits its in
    (λ e. same_message job m n (other.only (kept job m) (rw (← e) one.carried)), λ e. same_bytes job b c v w m.message n.message anew is its e)
