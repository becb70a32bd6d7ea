use Rattle.std.proofs.Common.{◌≡◌, ◌+◌, drop}
use Rattle.mail_model.specs.Envelope as envelope
use Rattle.mime_envelope.proofs.reading.test_characters.Given as goal

abbrev pub invariant-loop-i : goal.invariant-loop-i
invariant-loop-i l = envelope.bad_character l.at l.body ≡ envelope.bad_character (l.at + l.i) (drop l.i l.body)
