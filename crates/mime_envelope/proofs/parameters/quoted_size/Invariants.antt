use Rattle.std.proofs.Common.{◌≡◌, ◌+◌, drop, if◌then◌else◌}
use Rattle.mail_model.specs.Entities as entity
use Rattle.mail_model.proofs.Parameters.{pending}
use Rattle.mime_envelope.proofs.parameters.quoted_size.Given as goal

abbrev pub invariant-loop-i : goal.invariant-loop-i
invariant-loop-i l = l.i + entity.quoted_size (pending l.is_escaped (drop l.i l.text)) ≡ entity.quoted_size l.text + (if l.is_escaped then 1 else 0)
