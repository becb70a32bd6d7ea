-- What a sample is made into: no limit is passed on the way, and nothing is refused.
use Rattle.std.proofs.Common.{◌≡◌, ℕ, ◌≤◌, List, [], ◌++◌, Option, None, Some, refl, sym, subst, ap, ◌∙◌, arith}
use Rattle.std.specs.Prelude.{true, length, nat_le, codes}
use Rattle.std.proofs.lemmas.Bool.{le-leb, leb-true}
use Rattle.carrier_io.specs.Reads.{MeansOnly}
use Rattle.carrier_model.specs.Bytes.{MOST_BYTES}
use Rattle.carrier_model.specs.Limits.{Limit}
use Rattle.carrier_model.specs.Meanings.{Meaning}
use Rattle.carrier_model.specs.Sectors.{u32_of}
use Rattle.carrier_model.specs.Tables.{header_of, is_signature}
use Rattle.carrier_model.proofs.VisitLaws.{check_ok}
use Rattle.carrier_model.specs.Tree.{Message}
use Rattle.job_model.specs.SampleTexts.{bytes_line, sample_text}
use Rattle.text_model.specs.TreeTexts.{line, counted, count_lines}
use Rattle.job_model.specs.Acceptance.{Accepts, FaultOf, MessageBy}
use Rattle.job_model.specs.Commands.{to_msg, to_tnef}
use Rattle.job_model.specs.Signatures.{is_compound}
use Rattle.job_model.specs.Targets.{passed_limit}
use Rattle.job_model.proofs.SampleLimits.{file_passes, stream_passes, envelope_passes}
use Rattle.job_model.proofs.SampleParts.{sample_is_tree}
use Rattle.job_model.proofs.WithinLimits.{within}
use Rattle.mail_model.specs.EnvelopeText.{envelope_of}
use Rattle.msg_model.specs.MsgMessage.{MsgCarrier}
use Rattle.msg_model.specs.WrittenMsg.{msg_of}
use Rattle.msg_model.proofs.WrittenTop.{canonical_carries}
use Rattle.msg_model.proofs.WrittenFile.{found}
use Rattle.text_model.specs.SampleTrees.{GREATEST_SAMPLE, sample_tree}
use Rattle.tnef_model.specs.TnefCanonical.{tnef_of}
use Rattle.translate_core.specs.Ends.{file_limit}
use Rattle.translate_core.specs.Trips.{first_passed, Travelled, Halted}
use Rattle.translate_core.specs.declared.trips.Trip.{Trip}
use Rattle.outlook_cli.specs.Forms.{AreForms}

-- a .msg file begins as a compound file
compound : (b : List ℕ) (m : Meaning) → MsgCarrier b m.message m.passed → is_compound b ≡ true
unfolding header_of u32_of
compound b m c =
    let head = c.holds.tables.head in
    let long = check_ok (nat_le 512 (length b)) _ _ _ head c.holds.tables.header in
    let signed = check_ok (is_signature b) _ _ _ head long.1 in
    let enough : 512 ≤ length b = leb-true 512 (length b) long.0 in
    rw (le-leb 8 (length b) (omega (arith, enough))) signed.0

abbrev meaning_of_sample : ℕ → Meaning
meaning_of_sample n = record { message = sample_tree n; passed = [] }

carried : (n : ℕ) → n ≤ GREATEST_SAMPLE → MsgCarrier (msg_of (sample_tree n)) (sample_tree n) []
carried n small =
    let t = sample_tree n in
    let w = within 512 t (file_passes 512 refl n small) in
    canonical_carries 512 t (sample_is_tree n small) w.0 w.1 (found 512 t refl (sample_is_tree n small) w.0 w.1 w.2)

pub short : (n : ℕ) → n ≤ GREATEST_SAMPLE → length (msg_of (sample_tree n)) ≤ MOST_BYTES
short n small = (within 512 (sample_tree n) (file_passes 512 refl n small)).2

accepted : (n : ℕ) → n ≤ GREATEST_SAMPLE → Accepts to_tnef (msg_of (sample_tree n)) (meaning_of_sample n)
accepted n small =
    let b = msg_of (sample_tree n) in
    let m = meaning_of_sample n in
    (short n small, subst (λ k. MessageBy k b m) (sym (compound b m (carried n small))) (carried n small))

none_passed : (n : ℕ) (b : List ℕ) → n ≤ GREATEST_SAMPLE → first_passed (sample_tree n) b ≡ None
none_passed n b small =
    let streams = stream_passes n b small in
    let mails = envelope_passes n (sample_tree n) small in
    let files : passed_limit to_msg (sample_tree n) (tnef_of (sample_tree n)) ≡ None = file_passes 512 refl n small in
    rw (streams, mails, files) refl

-- ---- the ends of a trip, for bytes that are the sample's file

pub never_refused : (n : ℕ) (b : List ℕ) → n ≤ GREATEST_SAMPLE → b ≡ msg_of (sample_tree n) → ((m : Meaning) → Accepts to_tnef b m → ⊥) → ⊥
never_refused n b small e meaningless = meaningless (meaning_of_sample n) (subst (λ (x : List ℕ). Accepts to_tnef x (meaning_of_sample n)) (sym e) (accepted n small))

same_meaning : (n : ℕ) (b : List ℕ) (m : Meaning) → n ≤ GREATEST_SAMPLE → b ≡ msg_of (sample_tree n) → MeansOnly (Accepts to_tnef b) (FaultOf to_tnef b) m → meaning_of_sample n ≡ m
same_meaning n b m small e a = a.only (meaning_of_sample n) (subst (λ (x : List ℕ). Accepts to_tnef x (meaning_of_sample n)) (sym e) (accepted n small))

pub never_halted : (n : ℕ) (b : List ℕ) (step : ℕ) (limit : Limit) → n ≤ GREATEST_SAMPLE → b ≡ msg_of (sample_tree n) → Halted b step limit → ⊥
never_halted n b step limit small e h =
    let same = same_meaning n b h.m small e h.accepted in
    let none : first_passed (sample_tree n) b ≡ None = none_passed n b small in
    let some : first_passed (sample_tree n) b ≡ Some (step, limit) = subst (λ (m : Meaning). first_passed m.message b ≡ Some (step, limit)) (sym same) h.passes in
    absurd cc

pub travelled : (n : ℕ) (b : List ℕ) (trip : Trip) → n ≤ GREATEST_SAMPLE → b ≡ msg_of (sample_tree n) → Travelled b trip → AreForms n trip
travelled n b trip small e h =
    let same = same_meaning n b h.m small e h.accepted in
    let tnef : trip.tnef.items ≡ tnef_of (sample_tree n) = h.tnef ∙ ap (λ (m : Meaning). tnef_of m.message) (sym same) in
    record {
      tnef = tnef;
      envelope = h.envelope ∙ ap envelope_of tnef;
      msg = h.msg ∙ ap (λ (m : Meaning). msg_of m.message) (sym same);
    }

none_some : (o : Option Limit) (x : Limit) → o ≡ None → o ≡ Some x → ⊥
none_some o x p q = cc

-- a tree that is a sample has a file
pub never_unfit : (n : ℕ) (t : Message) (limit : Limit) → n ≤ GREATEST_SAMPLE → t ≡ sample_tree n → file_limit 512 t ≡ Some limit → ⊥
never_unfit n t limit small e some = none_some (file_limit 512 (sample_tree n)) limit (file_passes 512 refl n small) (subst (λ (x : Message). file_limit 512 x ≡ Some limit) e some)

-- ---- what is told of the parts of a sample

parts_text : ℕ → Message → List ℕ → List ℕ → List ℕ → List ℕ
parts_text n t tnef envelope msg =
    line 0 (counted (codes "sample") n)
    ++ (count_lines t ++ (bytes_line (codes "tnef") tnef ++ (bytes_line (codes "envelope") envelope ++ bytes_line (codes "msg") msg)))

parts_same : (n : ℕ) (t u : Message) (a b c x y z : List ℕ) → t ≡ u → a ≡ x → b ≡ y → c ≡ z → parts_text n t a b c ≡ parts_text n u x y z
parts_same n t u a b c x y z p q r s = ap (λ (k : Message). parts_text n k a b c) p ∙ (ap (λ (k : List ℕ). parts_text n u k b c) q ∙ (ap (λ (k : List ℕ). parts_text n u x k c) r ∙ ap (λ (k : List ℕ). parts_text n u x y k) s))

pub told_is : (n : ℕ) (t : Message) (trip : Trip) → t ≡ sample_tree n → AreForms n trip → line 0 (counted (codes "sample") n) ++ (count_lines t ++ (bytes_line (codes "tnef") trip.tnef.items ++ (bytes_line (codes "envelope") trip.envelope.items ++ bytes_line (codes "msg") trip.msg.items))) ≡ sample_text n
unfolding parts_text
told_is n t trip e f = parts_same n t (sample_tree n) trip.tnef.items trip.envelope.items trip.msg.items (tnef_of (sample_tree n)) (envelope_of (tnef_of (sample_tree n))) (msg_of (sample_tree n)) e f.tnef f.envelope f.msg
