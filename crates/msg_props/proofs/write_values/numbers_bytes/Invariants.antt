use Rattle.std.proofs.Common.{◌≡◌, take}
use Rattle.std.specs.List.{flat_map}
use Rattle.carrier_model.specs.Bytes.{le_bytes}
use Rattle.msg_props.proofs.write_values.numbers_bytes.Given as goal

abbrev pub invariant-loop-k : goal.invariant-loop-k
invariant-loop-k l = l.out.items ≡ flat_map (le_bytes l.width) (take l.k l.list)
