use Rattle.std.proofs.Common.{◌≡◌, ◌+◌, drop}
use Rattle.std.specs.List.{prefix_len}
use Rattle.mail_model.specs.Envelope as envelope
use Rattle.mime_envelope.proofs.body.count_skipped.Given as goal

abbrev pub invariant-loop-i : goal.invariant-loop-i
invariant-loop-i l = prefix_len (λ c. envelope.is_skipped c) l.bytes ≡ l.i + prefix_len (λ c. envelope.is_skipped c) (drop l.i l.bytes)
