use Rattle.std.proofs.Common.{◌≡◌, ◌-◌, ◌*◌, ◌++◌, replicate, take}
use Rattle.std.specs.List.{flat_map}
use Rattle.carrier_model.specs.Bytes.{le16}
use Rattle.cfb_writer.proofs.directory.name_bytes.Given as goal

abbrev pub invariant-loop-k : goal.invariant-loop-k
invariant-loop-k l = l.bytes ≡ flat_map le16 (take l.k l.name) ++ replicate (64 - 2 * l.k) 0
