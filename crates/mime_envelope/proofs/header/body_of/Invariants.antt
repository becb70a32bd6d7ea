use Rattle.std.proofs.Common.{◌≡◌, ◌+◌, true, length}
use Rattle.mail_model.specs.Lines.{lines}
use Rattle.mail_model.specs.Entities as entity
use Rattle.mime_envelope.proofs.header.body_of.Given as goal

abbrev pub invariant-loop-rest : goal.invariant-loop-rest
invariant-loop-rest l = record {
  same : entity.body_of true l.at (lines l.bytes) ≡ entity.body_of l.is_first l.place (lines l.rest);
  within : l.place + length l.rest ≡ l.at + length l.bytes;
}

abbrev pub decreases-loop-rest : goal.decreases-loop-rest
decreases-loop-rest l = length l.rest
