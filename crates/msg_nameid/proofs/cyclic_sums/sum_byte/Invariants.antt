use Rattle.std.proofs.Common.{◌≡◌, ◌-◌}
use Rattle.std.specs.Prelude.{bit_xor}
use Rattle.msg_nameid.proofs.HashSteps.{bits}
use Rattle.msg_nameid.proofs.cyclic_sums.sum_byte.Given as goal

abbrev pub invariant-loop : goal.invariant-loop
invariant-loop l = bits (8 - l.counter) l.state ≡ bits 8 (bit_xor l.fn.sum l.byte)
