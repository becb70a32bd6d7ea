use Rattle.std.proofs.Common.{◌≡◌, ◌+◌, length}
use Rattle.mail_model.specs.Lines.{lines}
use Rattle.mail_model.specs.Entities as entity
use Rattle.mime_envelope.proofs.header.find_field.Given as goal

abbrev pub invariant-loop-rest : goal.invariant-loop-rest
invariant-loop-rest l = record {
  same : entity.field l.name l.at (lines l.bytes) ≡ entity.field l.name l.place (lines l.rest);
  within : l.place + length l.rest ≡ l.at + length l.bytes;
}

abbrev pub decreases-loop-rest : goal.decreases-loop-rest
decreases-loop-rest l = length l.rest
