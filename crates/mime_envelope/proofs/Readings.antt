-- What an envelope carries, or its first fault, by what was read.
use Rattle.std.proofs.Common.{◌≡◌, ℕ, ◌+◌, List, length, Option, Some, None, Ok, Err, inl, inr, refl, sym, ap, ◌∙◌}
use Rattle.carrier_io.specs.declared.reasons.Stop.{Stop}
use Rattle.carrier_io.specs.declared.reasons.Stop.TheVariants as stops
use Rattle.carrier_io.specs.Reasons.{fault_of}
use Rattle.carrier_io.specs.Reads.{Fails, Reads, MeansOnly, FaultOnly}
use Rattle.mail_model.specs.Base64.{base64_text}
use Rattle.carrier_model.specs.Bytes.{AllBytes}
use Rattle.carrier_model.specs.Reasons.{NO_TNEF_PART, BAD_PADDING}
use Rattle.carrier_model.specs.Trail.{Fault}
use Rattle.mail_model.specs.Envelope.{Part, search, bad_encoding, bad_character, characters, unless, text_of_part, text_found, envelope_text, Envelope, EnvelopeFault}

pub text_stop : (s : Stop) (bytes : List ℕ) → Fails {Y = Option Part} s (search 16 0 bytes) → Fails {Y = ℕ × List ℕ} s (envelope_text bytes)
unfolding envelope_text
text_stop (stops.Fault g) bytes h = ap text_found h
text_stop stops.NoMemory bytes h = tt

pub text_none : (bytes : List ℕ) → search 16 0 bytes ≡ Ok None → envelope_text bytes ≡ Err (NO_TNEF_PART, 0)
unfolding envelope_text
text_none bytes h = ap text_found h

text_part : (bytes : List ℕ) (p : Part) → search 16 0 bytes ≡ Ok (Some p) → envelope_text bytes ≡ text_of_part p
unfolding envelope_text
text_part bytes p h = ap text_found h

pub text_encoding : (bytes : List ℕ) (p : Part) (g : Fault) → search 16 0 bytes ≡ Ok (Some p) → bad_encoding p ≡ Some g → envelope_text bytes ≡ Err g
text_encoding bytes p g h bad = text_part bytes p h ∙ ap (λ (z : Option Fault). unless z (unless (bad_character p.place p.body) (Ok (p.place + length p.body, characters p.body)))) bad

pub text_character : (bytes : List ℕ) (p : Part) (g : Fault) → search 16 0 bytes ≡ Ok (Some p) → bad_encoding p ≡ None → bad_character p.place p.body ≡ Some g → envelope_text bytes ≡ Err g
text_character bytes p g h good bad =
    text_part bytes p h
    ∙ ap (λ (z : Option Fault). unless z (unless (bad_character p.place p.body) (Ok (p.place + length p.body, characters p.body)))) good
    ∙ ap (λ (z : Option Fault). unless z (Ok (p.place + length p.body, characters p.body))) bad

pub text_good : (bytes : List ℕ) (p : Part) (text : List ℕ) → search 16 0 bytes ≡ Ok (Some p) → bad_encoding p ≡ None → bad_character p.place p.body ≡ None → text ≡ characters p.body → envelope_text bytes ≡ Ok (p.place + length p.body, text)
text_good bytes p text h good also is =
    text_part bytes p h
    ∙ ap (λ (z : Option Fault). unless z (unless (bad_character p.place p.body) (Ok (p.place + length p.body, characters p.body)))) good
    ∙ ap (λ (z : Option Fault). unless z (Ok (p.place + length p.body, characters p.body))) also
    ∙ ap (λ (z : List ℕ). Ok (p.place + length p.body, z)) (sym is)

pub same_text : (bytes : List ℕ) (end other : ℕ) (text given : List ℕ) → envelope_text bytes ≡ Ok (end, text) → envelope_text bytes ≡ Ok (other, given) → given ≡ text
same_text bytes end other text given e f = let same : (other, given) ≡ (end, text) = cc in ap (λ (z : ℕ × List ℕ). z.1) same

same_end : (bytes : List ℕ) (end other : ℕ) (text given : List ℕ) → envelope_text bytes ≡ Ok (end, text) → envelope_text bytes ≡ Ok (other, given) → other ≡ end
same_end bytes end other text given e f = let same : (other, given) ≡ (end, text) = cc in ap (λ (z : ℕ × List ℕ). z.0) same

not_both : (bytes : List ℕ) (end : ℕ) (text : List ℕ) (g : Fault) → envelope_text bytes ≡ Ok (end, text) → envelope_text bytes ≡ Err g → ⊥
not_both bytes end text g e f = cc

same_fault : (bytes : List ℕ) (g h : Fault) → envelope_text bytes ≡ Err g → envelope_text bytes ≡ Err h → h ≡ g
same_fault bytes g h e f = cc

pub carries : (bytes : List ℕ) (end : ℕ) (text p : List ℕ) → envelope_text bytes ≡ Ok (end, text) → AllBytes p → text ≡ base64_text p → ((q : List ℕ) → AllBytes q → text ≡ base64_text q → q ≡ p) → MeansOnly (Envelope bytes) (EnvelopeFault bytes) p
carries bytes end text p found all coded one = record {
  found = record { end = end; text = text; found = found; bytes_only = all; coded = coded };
  only = λ q m. one q m.bytes_only (sym (same_text bytes end m.end text m.text found m.found) ∙ m.coded);
  faultless = λ g f. elim f [
    | inl e ↦ not_both bytes end text g found e
    | inr n ↦ n.4 p all (same_text bytes end n.0 text n.1 found n.2 ∙ coded)
  ];
}

pub stops_early : (bytes : List ℕ) (g : Fault) → envelope_text bytes ≡ Err g → FaultOnly (Envelope bytes) (EnvelopeFault bytes) g
stops_early bytes g e = record {
  is_first = inl e;
  only = λ h f. elim f [
    | inl d ↦ same_fault bytes g h e d
    | inr n ↦ absurd (not_both bytes n.0 n.1 g n.2 e)
  ];
  meaningless = λ p m. not_both bytes m.end m.text g m.found e;
}

pub codes_nothing : (bytes : List ℕ) (end : ℕ) (text : List ℕ) → envelope_text bytes ≡ Ok (end, text) → ((q : List ℕ) → AllBytes q → text ≡ base64_text q → ⊥) → FaultOnly (Envelope bytes) (EnvelopeFault bytes) (BAD_PADDING, end)
codes_nothing bytes end text found none = record {
  is_first = inr (end, text, found, refl, none);
  only = λ h f. elim f [
    | inl d ↦ absurd (not_both bytes end text h found d)
    | inr n ↦ n.3 ∙ ap (λ (z : ℕ). (BAD_PADDING, z)) (same_end bytes end n.0 text n.1 found n.2)
  ];
  meaningless = λ p m. none p m.bytes_only (sym (same_text bytes end m.end text m.text found m.found) ∙ m.coded);
}

pub reads_stop : {Y : Type 0} (view : Y → List ℕ) (s : Stop) (bytes : List ℕ) → Fails {Y = ℕ × List ℕ} s (envelope_text bytes) → Reads view (Err s) (Envelope bytes) (EnvelopeFault bytes)
reads_stop view (stops.Fault g) bytes h = stops_early bytes (fault_of g) h
reads_stop view stops.NoMemory bytes h = tt
