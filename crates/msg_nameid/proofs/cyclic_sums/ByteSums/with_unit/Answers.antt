use Rattle.std.proofs.Common.{arith}
use Rattle.msg_nameid.proofs.SumSteps.{word_summed}
use Rattle.msg_nameid.proofs.cyclic_sums.ByteSums.with_unit.Goals as goal

pub returns : goal.returns
returns c = word_summed c.self.inside.alone c.self.inside.before_zero c.args.sum c.args.unit c.from.result c.self.invariant (omega arith) c.from.ensures
