use Rattle.std.proofs.Common.{◌≡◌, ◌*◌, take}
use Rattle.carrier_model.specs.Bytes.{unit_bytes}
use Rattle.json_writer.proofs.plain.put_units.Given as goal

abbrev pub invariant-loop-k : goal.invariant-loop-k
invariant-loop-k l = take (2 * l.k) l.bytes ≡ unit_bytes (take l.k l.units)
