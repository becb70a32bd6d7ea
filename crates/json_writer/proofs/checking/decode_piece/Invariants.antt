use Rattle.std.proofs.Common.{length}
use Rattle.json_writer.proofs.Decoding.{FitsTo}
use Rattle.json_writer.proofs.checking.decode_piece.Given as goal

abbrev pub invariant-loop-rest : goal.invariant-loop-rest
invariant-loop-rest l = FitsTo l.initial.decoder l.decoder l.bytes l.rest

abbrev pub decreases-loop-rest : goal.decreases-loop-rest
decreases-loop-rest l = length l.rest
