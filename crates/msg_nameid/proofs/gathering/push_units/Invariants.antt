use Rattle.std.proofs.Common.{◌≡◌, ◌+◌, ◌-◌, ◌*◌, ◌++◌, length, take, replicate}
use Rattle.std.specs.Prelude.{vec_len}
use Rattle.carrier_model.specs.Bytes.{le32, pad4}
use Rattle.msg_model.specs.WrittenNames.{name_units}
use Rattle.msg_nameid.proofs.gathering.push_units.Given as goal

abbrev pub invariant-loop-k : goal.invariant-loop-k
invariant-loop-k l =
    (vec_len l.texts ≡ l.first + (2 * length l.units + pad4 (2 * length l.units)))
    × (l.texts.items ≡ (l.fn.texts.items ++ le32 (2 * length l.units)) ++ (name_units (take l.k l.units) ++ replicate (2 * length l.units + pad4 (2 * length l.units) - 2 * l.k) 0))
