use Rattle.std.proofs.Common.{◌∙◌, arith}
use Rattle.msg_nameid.proofs.SumSteps.{unit_summed}
use Rattle.msg_nameid.proofs.cyclic_sums.ByteSums.of_units.Goals as goal

pub loop-unit-preserved : goal.loop-unit-preserved
loop-unit-preserved c = unit_summed c.args.units.now c.loop-unit.unit-index c.loop-unit.sum c.with_unit-sum.result c.loop-unit-test.true c.with_unit-sum.ensures (omega (arith, c.type_inv.units c.loop-unit.unit-index)) ∙ c.loop-unit.invariant
