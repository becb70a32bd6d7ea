use Rattle.std.proofs.Common.{length}
use Rattle.carrier_model.specs.Bytes.{unit_bytes}
use Rattle.json_writer.proofs.Decoding.{FitsTo}
use Rattle.json_writer.proofs.checking.decode_units.Given as goal

abbrev pub invariant-loop-rest : goal.invariant-loop-rest
invariant-loop-rest l = FitsTo l.initial.decoder l.decoder (unit_bytes l.units) (unit_bytes l.rest)

abbrev pub decreases-loop-rest : goal.decreases-loop-rest
decreases-loop-rest l = length l.rest
