-- What a job wrote is taken by the jobs after it.
use Rattle.std.proofs.Common.{◌≡◌, ◌≢◌, ℕ, List, None, refl}
use Rattle.carrier_model.specs.Bytes.{AllBytes}
use Rattle.carrier_model.specs.Meanings.{Meaning}
use Rattle.job_model.specs.Acceptance.{Accepts, kept}
use Rattle.job_model.specs.Commands.{Job, to_msg, to_msg4, to_tnef, wrap, unwrap}
use Rattle.job_model.specs.Targets.{passed_limit}
use Rattle.job_model.proofs.Results.{to_tnef_carries}
use Rattle.job_model.proofs.TakenOn.{stream_taken, stream_within, mail_within}
use Rattle.mail_model.specs.EnvelopeText.{envelope_of}
use Rattle.tnef_model.specs.TnefCanonical.{tnef_of}
use Rattle.translate_core.proofs.Exact.{Mails}

pub stream_taken_on : (next : Job) (b : List ℕ) (m : Meaning) → next ≢ unwrap → AllBytes b → Accepts to_tnef b m → passed_limit to_tnef m.message b ≡ None → Accepts next (tnef_of m.message) (kept to_tnef m)
stream_taken_on next b m other all a none =
    let means = (to_tnef_carries b m all a none).carried in
    let short = stream_within m.message b none in
    let message = stream_taken (tnef_of m.message) (kept to_tnef m) means in
    elim next as (λ j. j ≢ unwrap → Accepts j (tnef_of m.message) (kept to_tnef m)) [
      | to_msg ↦ λ e. (short, message)
      | to_msg4 ↦ λ e. (short, message)
      | to_tnef ↦ λ e. (short, message)
      | wrap ↦ λ e. (short, means)
      | unwrap ↦ λ e. absurd (e refl)
    ] other

pub mail_taken_on : Mails → (b : List ℕ) (m : Meaning) → AllBytes b → Accepts wrap b m → passed_limit wrap m.message b ≡ None → Accepts unwrap (envelope_of b) m
mail_taken_on mails b m all a none = (mail_within m.message b none, record { payload = b; carried = mails.carried b all; means = a.1 })
