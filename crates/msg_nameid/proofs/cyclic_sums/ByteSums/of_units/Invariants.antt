use Rattle.std.proofs.Common.{◌≡◌, drop}
use Rattle.msg_model.specs.WrittenNames.{cyclic_sum, name_units}
use Rattle.msg_nameid.proofs.cyclic_sums.ByteSums.of_units.Given as goal

abbrev pub invariant-loop-unit : goal.invariant-loop-unit
invariant-loop-unit l = cyclic_sum l.sum (name_units (drop l.unit-index l.units)) ≡ cyclic_sum 0 (name_units l.units)
