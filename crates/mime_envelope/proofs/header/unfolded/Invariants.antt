use Rattle.std.proofs.Common.{◌≡◌, ◌++◌, length}
use Rattle.mail_model.specs.Lines.{lines}
use Rattle.mail_model.specs.Entities as entity
use Rattle.mime_envelope.proofs.header.unfolded.Given as goal

abbrev pub invariant-loop-rest : goal.invariant-loop-rest
invariant-loop-rest l = l.value.items ++ entity.continued (lines l.rest) ≡ l.first ++ entity.continued (lines l.lines)

abbrev pub decreases-loop-rest : goal.decreases-loop-rest
decreases-loop-rest l = length l.rest
