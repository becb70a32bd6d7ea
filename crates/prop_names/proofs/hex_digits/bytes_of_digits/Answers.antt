use Rattle.std.proofs.Common.{arith}
use Rattle.prop_names.proofs.PairsOfDigits.{digits_more, bytes_more}
use Rattle.prop_names.proofs.hex_digits.bytes_of_digits.Goals as goal

pub loop-k-preserved : goal.loop-k-preserved
loop-k-preserved c = record {
  digits = digits_more c.args.text.now c.loop-k.k c.in-Some.byte (omega (arith, c.loop-k-test.true)) c.in-Some.ensures c.loop-k.invariant.digits;
  bytes = rw c.in_ok-push-in-Some.ensures.items (bytes_more c.args.text.now c.loop-k.bytes.items c.loop-k.k c.in-Some.byte (omega (arith, c.loop-k-test.true)) c.in-Some.ensures c.loop-k.invariant.bytes);
}
