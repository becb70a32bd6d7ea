use Rattle.std.proofs.Common.{length}
use Rattle.mime_envelope.proofs.Cuts.{Passed}
use Rattle.mime_envelope.proofs.parts.part_size.Given as goal

abbrev pub invariant-loop-rest : goal.invariant-loop-rest
invariant-loop-rest l = Passed l.marks.boundary.items l.bytes l.rest

abbrev pub decreases-loop-rest : goal.decreases-loop-rest
decreases-loop-rest l = length l.rest
