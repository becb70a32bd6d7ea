use Rattle.std.proofs.Common.{◌≡◌, ◌-◌, ◌*◌, ◌/◌, ◌++◌, length, replicate, take}
use Rattle.std.specs.Prelude.{vec_len}
use Rattle.carrier_model.specs.Bytes.{units_of}
use Rattle.prop_names.proofs.units.units_of_bytes.Given as goal

abbrev pub invariant-loop-k : goal.invariant-loop-k
invariant-loop-k l = (vec_len l.list ≡ length l.bytes / 2) × (l.list.items ≡ units_of (take (2 * l.k) l.bytes) ++ replicate (length l.bytes / 2 - l.k) 0)
