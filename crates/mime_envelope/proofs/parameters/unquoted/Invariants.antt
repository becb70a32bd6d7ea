use Rattle.std.proofs.Common.{◌≡◌, ◌++◌, drop}
use Rattle.mail_model.specs.Entities as entity
use Rattle.mail_model.proofs.Parameters.{pending}
use Rattle.mime_envelope.proofs.parameters.unquoted.Given as goal

abbrev pub invariant-loop-c : goal.invariant-loop-c
invariant-loop-c l = l.value.items ++ entity.unquoted (pending l.is_escaped (drop l.c-index l.text)) ≡ entity.unquoted l.text
