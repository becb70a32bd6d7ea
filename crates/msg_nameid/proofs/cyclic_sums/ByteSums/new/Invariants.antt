use Rattle.std.proofs.Common.{◌≡◌, length}
use Rattle.msg_model.specs.WrittenNames.{sum_byte}
use Rattle.msg_nameid.proofs.SumSteps.{Has}
use Rattle.msg_nameid.proofs.cyclic_sums.ByteSums.new.Given as goal

abbrev pub invariant-loop-byte : goal.invariant-loop-byte
invariant-loop-byte l = record {
  one : Has (sum_byte 0) l.alone l.byte;
  two : Has (λ byte. sum_byte (sum_byte 0 byte) 0) l.before_zero l.byte;
  ones : length l.alone ≡ 256;
  twos : length l.before_zero ≡ 256;
}
