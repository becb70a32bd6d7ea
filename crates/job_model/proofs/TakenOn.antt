-- What was written is taken by the jobs after it.
use Rattle.std.proofs.Common.{◌≡◌, ℕ, ◌≤◌, List, [], length, Bool, true, false, None, ap, ◌∙◌, sym, subst, refl}
use Rattle.std.specs.Prelude.{◌==◌, ◌&&◌}
use Rattle.std.proofs.lemmas.Bool.{and_parts, eqb-true}
use Rattle.std.proofs.lemmas.List.{append-nil}
use Rattle.carrier_model.specs.Bytes.{MOST_BYTES, number32}
use Rattle.carrier_model.specs.Limits.{first_limit, too_large, too_many_names}
use Rattle.carrier_model.specs.Meanings.{Meaning}
use Rattle.carrier_model.specs.Tables.{SIGNATURE_LOW}
use Rattle.carrier_model.specs.Totals.{capped}
use Rattle.carrier_model.specs.Tree.{Message, names_of}
use Rattle.job_model.specs.Acceptance.{CarriesMessage, MessageBy}
use Rattle.job_model.specs.Commands.{to_tnef, wrap}
use Rattle.job_model.specs.Signatures.{is_signed, is_compound}
use Rattle.job_model.specs.Targets.{passed_limit, passed_size}
use Rattle.job_model.proofs.Acceptance.{signed}
use Rattle.job_model.proofs.WithinLimits.{not_passed}
use Rattle.mail_model.specs.EnvelopeText.{envelope_of}
use Rattle.tnef_model.specs.Attributes.{SIGNATURE}
use Rattle.tnef_model.specs.TnefCanonical.{tnef_of}
use Rattle.tnef_model.specs.TnefMessage.{TnefCarrier}

-- ---- how bytes begin

other_number : (n : ℕ) (long more : Bool) → n ≡ SIGNATURE → (long && ((n == SIGNATURE_LOW) && more)) ≡ false
other_number n true more e = rw e refl
other_number n false more e = refl

-- what begins as a TNEF stream does not begin as a compound file
signed_apart : (b : List ℕ) → is_signed b ≡ true → is_compound b ≡ false
signed_apart b is = let parts = and_parts _ _ is in other_number (number32 b) _ _ (eqb-true (number32 b) SIGNATURE parts.1)

-- a TNEF stream is taken as one where either form is
pub stream_taken : (w : List ℕ) (m : Meaning) → TnefCarrier w m.message m.passed → CarriesMessage w m
stream_taken w m c = subst (λ k. MessageBy k w m) (sym (signed_apart w (signed w m c))) c

-- ---- sizes

size_within : (w : List ℕ) → first_limit (passed_size w) ≡ None → length w ≤ MOST_BYTES
size_within w none = (not_passed MOST_BYTES (length w) (too_large (capped (length w))) [] (ap first_limit (append-nil (passed_size w)) ∙ none)).0

pub stream_within : (t : Message) (b : List ℕ) → passed_limit to_tnef t b ≡ None → length (tnef_of t) ≤ MOST_BYTES
stream_within t b none = size_within (tnef_of t) (not_passed 32000 (length (names_of t)) (too_many_names (length (names_of t))) (passed_size (tnef_of t)) none).1

pub mail_within : (t : Message) (b : List ℕ) → passed_limit wrap t b ≡ None → length (envelope_of b) ≤ MOST_BYTES
mail_within t b none = size_within (envelope_of b) none
