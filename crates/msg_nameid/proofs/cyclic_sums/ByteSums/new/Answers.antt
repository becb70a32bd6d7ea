use Rattle.std.proofs.Common.{ap, ◌∙◌, arith}
use Rattle.std.proofs.lemmas.List.{length-set}
use Rattle.msg_model.specs.WrittenNames.{sum_byte}
use Rattle.msg_nameid.proofs.SumSteps.{one_more}
use Rattle.msg_nameid.proofs.cyclic_sums.ByteSums.new.Goals as goal

pub loop-byte-preserved : goal.loop-byte-preserved
loop-byte-preserved c = record {
  one = one_more (sum_byte 0) c.loop-byte.alone c.loop-byte.byte c.sum_byte-sum.result (omega arith) c.loop-byte.invariant.one c.sum_byte-sum.ensures;
  two = one_more (λ byte. sum_byte (sum_byte 0 byte) 0) c.loop-byte.before_zero c.loop-byte.byte c.sum_byte.result (omega arith) c.loop-byte.invariant.two (c.sum_byte.ensures ∙ ap (λ sum. sum_byte sum 0) c.sum_byte-sum.ensures);
  ones = length-set c.loop-byte.alone c.loop-byte.byte c.sum_byte-sum.result ∙ c.loop-byte.invariant.ones;
  twos = length-set c.loop-byte.before_zero c.loop-byte.byte c.sum_byte.result ∙ c.loop-byte.invariant.twos;
}
