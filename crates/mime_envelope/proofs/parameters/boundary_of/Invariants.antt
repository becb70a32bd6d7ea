use Rattle.std.proofs.Common.{◌≡◌, length}
use Rattle.mail_model.specs.Entities as entity
use Rattle.mime_envelope.proofs.parameters.boundary_of.Given as goal

abbrev pub invariant-loop-rest : goal.invariant-loop-rest
invariant-loop-rest l = entity.boundary 0 l.value ≡ entity.boundary 0 l.rest

abbrev pub decreases-loop-rest : goal.decreases-loop-rest
decreases-loop-rest l = length l.rest
