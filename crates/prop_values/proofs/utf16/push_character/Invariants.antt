use Rattle.std.proofs.Common.{◌≡◌, ◌++◌, take}
use Rattle.carrier_model.specs.Bytes.{unit_bytes}
use Rattle.prop_values.proofs.utf16.push_character.Given as goal

abbrev pub invariant-loop-unit : goal.invariant-loop-unit
invariant-loop-unit l = l.bytes.items ≡ l.fn.bytes.items ++ unit_bytes (take l.unit-index l.units)
