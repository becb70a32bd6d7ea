-- What a body codes is no longer than it is.
use Rattle.std.proofs.Common.{◌≡◌, ℕ, ◌≤◌, List, length, not, ap, arith}
use Rattle.std.proofs.lemmas.List.Sums.{length-filter, count_by-le-length}
use Rattle.mail_model.specs.Base64.{base64_text}
use Rattle.mail_model.specs.Envelope.{characters, is_skipped}
use Rattle.mail_model.proofs.EnvelopeText.{length-base64_text}

pub coded_is_short : (body p : List ℕ) → characters body ≡ base64_text p → length p ≤ length body
coded_is_short body p is =
    let size : length (characters body) ≡ length (base64_text p) = ap length is in
    omega (arith, size, length-base64_text p, length-filter (λ c. not (is_skipped c)) body, count_by-le-length (λ c. not (is_skipped c)) body)
