use Rattle.std.proofs.Common.{◌≡◌, drop}
use Rattle.std.specs.Prelude.{nat_eq}
use Rattle.carrier_model.specs.Bytes.{le_number}
use Rattle.tnef_props.proofs.texts.is_zero.Given as goal

abbrev pub invariant-loop-b : goal.invariant-loop-b
invariant-loop-b l = nat_eq (le_number l.bytes) 0 ≡ nat_eq (le_number (drop l.b-index l.bytes)) 0
