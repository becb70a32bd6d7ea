use Rattle.std.proofs.Common.{◌∙◌, arith}
use Rattle.msg_nameid.proofs.HashSteps.{bits_step, bits_done}
use Rattle.msg_nameid.proofs.cyclic_sums.sum_byte.Goals as goal

pub loop-preserved : goal.loop-preserved
loop-preserved c = bits_step c.loop.counter c.loop.state c.sum_bit-state.result (omega arith) c.sum_bit-state.ensures ∙ c.loop.invariant

pub returns : goal.returns
returns c = bits_done c.loop.counter c.loop.state c.args.sum c.args.byte (omega arith) c.loop.invariant
