-- Bytes are accepted as one message, or refused for one fault, for each job.
use Rattle.std.proofs.Common.{◌≡◌, inl, inr, ℕ, List, [], Result, Ok, Err, sym, ◌∙◌, ap, arith}
use Rattle.carrier_model.specs.Bytes.{AllBytes}
use Rattle.carrier_model.specs.Meanings.{Meaning}
use Rattle.carrier_model.specs.Trail.{Fault, IsExact}
use Rattle.carrier_model.specs.Tree.{GREATEST_LEVEL}
use Rattle.job_model.specs.Acceptance.{Accepts, FaultOf, EnvelopeCarrier, PayloadFault}
use Rattle.job_model.specs.Commands.{Job, to_msg, to_msg4, to_tnef, wrap, unwrap}
use Rattle.job_model.proofs.Acceptance.{to_msg_exact, to_msg4_exact, to_tnef_exact, wrap_exact}
use Rattle.carrier_model.specs.Reasons.{BAD_PADDING}
use Rattle.mail_model.specs.Envelope.{Envelope, EnvelopeFault, envelope_text}
use Rattle.mail_model.specs.EnvelopeText.{envelope_of}
use Rattle.tnef_model.proofs.TnefMessage.{message_exact}

-- the canonical envelope of bytes carries them, and no others
pub record Mails : Type 0 where
  pub carried : (bytes : List ℕ) → AllBytes bytes → Envelope (envelope_of bytes) bytes
  pub only : (bytes other : List ℕ) → AllBytes bytes → Envelope (envelope_of bytes) other → other ≡ bytes

-- the text that was found, and its end
text_in : Result (ℕ × List ℕ) Fault → List ℕ
text_in (Ok p) = p.1
text_in (Err g) = []

end_in : Result (ℕ × List ℕ) Fault → ℕ
end_in (Ok p) = p.0
end_in (Err g) = 0

same_text : (b : List ℕ) (m n : ℕ) (x y : List ℕ) → envelope_text b ≡ Ok (m, x) → envelope_text b ≡ Ok (n, y) → x ≡ y
unfolding text_in
same_text b m n x y p q = ap text_in (sym p ∙ q)

same_end : (b : List ℕ) (m n : ℕ) (x y : List ℕ) → envelope_text b ≡ Ok (m, x) → envelope_text b ≡ Ok (n, y) → m ≡ n
unfolding end_in
same_end b m n x y p q = ap end_in (sym p ∙ q)

-- an envelope carries one payload
pub one_payload : Mails → (b p q : List ℕ) → Envelope b p → Envelope b q → q ≡ p
one_payload mails b p q e f =
    let own = mails.carried p e.bytes_only in
    let same = same_text b e.end f.end e.text f.text e.found f.found in
    mails.only p q e.bytes_only (record { end = own.end; text = own.text; found = own.found; bytes_only = f.bytes_only; coded = own.coded ∙ sym e.coded ∙ same ∙ f.coded })

one_fault : (b : List ℕ) (g h : Fault) → EnvelopeFault b g → EnvelopeFault b h → h ≡ g
one_fault b g h (inl p) (inl q) = cc
one_fault b g h (inl p) (inr q) = let other = q.2 in absurd cc
one_fault b g h (inr p) (inl q) = let other = p.2 in absurd cc
one_fault b g h (inr p) (inr q) = q.3 ∙ ap (λ (n : ℕ). (BAD_PADDING, n)) (sym (same_end b p.0 q.0 p.1 q.1 p.2 q.2)) ∙ sym p.3

-- what carries something has no fault
no_fault : (b p : List ℕ) (g : Fault) → Envelope b p → EnvelopeFault b g → ⊥
no_fault b p g e (inl f) = let found = e.found in absurd cc
no_fault b p g e (inr f) = f.4 p e.bytes_only (sym (same_text b e.end f.0 e.text f.1 e.found f.2) ∙ e.coded)

-- ---- what is in a mail

one_carried : Mails → (b : List ℕ) (m n : Meaning) → EnvelopeCarrier b m → EnvelopeCarrier b n → n ≡ m
one_carried mails b m n p q =
    let same = one_payload mails b p.payload q.payload p.carried q.carried in
    (message_exact GREATEST_LEVEL 0 p.payload).one m n p.means (rw (sym same) q.means)

one_fault_in : Mails → (b : List ℕ) (g h : Fault) → PayloadFault b g → PayloadFault b h → h ≡ g
one_fault_in mails b g h p q =
    let same = one_payload mails b p.payload q.payload p.carried q.carried in
    (message_exact GREATEST_LEVEL 0 p.payload).single g h p.fault (rw (sym same) q.fault)

apart_in : Mails → (b : List ℕ) (m : Meaning) (g : Fault) → EnvelopeCarrier b m → PayloadFault b g → ⊥
apart_in mails b m g p q =
    let same = one_payload mails b p.payload q.payload p.carried q.carried in
    (message_exact GREATEST_LEVEL 0 p.payload).apart m g p.means (rw (sym same) q.fault)

single : Mails → (b : List ℕ) (g h : Fault) → FaultOf unwrap b g → FaultOf unwrap b h → h ≡ g
single mails b g h (inl p) (inl q) = q.1 ∙ sym p.1
single mails b g h (inl p) (inr q) = absurd (omega (arith, p.0, q.0))
single mails b g h (inr p) (inl q) = absurd (omega (arith, p.0, q.0))
single mails b g h (inr (few, inl p)) (inr (more, inl q)) = one_fault b g h p q
single mails b g h (inr (few, inl p)) (inr (more, inr q)) = absurd (no_fault b q.payload g q.carried p)
single mails b g h (inr (few, inr p)) (inr (more, inl q)) = absurd (no_fault b p.payload h p.carried q)
single mails b g h (inr (few, inr p)) (inr (more, inr q)) = one_fault_in mails b g h p q

apart : Mails → (b : List ℕ) (m : Meaning) (g : Fault) → Accepts unwrap b m → FaultOf unwrap b g → ⊥
apart mails b m g p (inl q) = omega (arith, p.0, q.0)
apart mails b m g p (inr (few, inl q)) = no_fault b p.1.payload g p.1.carried q
apart mails b m g p (inr (few, inr q)) = apart_in mails b m g p.1 q

unwrap_exact : Mails → (b : List ℕ) → IsExact (Accepts unwrap b) (FaultOf unwrap b)
unwrap_exact mails b = record { one = λ m n p q. one_carried mails b m n p.1 q.1; single = single mails b; apart = apart mails b }

pub exact : Mails → (job : Job) (b : List ℕ) → IsExact (Accepts job b) (FaultOf job b)
exact mails to_msg b = to_msg_exact b
exact mails to_msg4 b = to_msg4_exact b
exact mails to_tnef b = to_tnef_exact b
exact mails wrap b = wrap_exact b
exact mails unwrap b = unwrap_exact mails b
