use Rattle.std.proofs.Common.{◌≡◌, ◌||◌, take}
use Rattle.std.specs.List.{list_all}
use Rattle.mail_model.specs.Envelope as envelope
use Rattle.mime_envelope.proofs.reading.is_text.Given as goal

abbrev pub invariant-loop-byte : goal.invariant-loop-byte
invariant-loop-byte l = l.good ≡ list_all (λ c. envelope.is_skipped c || envelope.is_character c) (take l.byte-index l.body)
