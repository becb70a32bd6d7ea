use Rattle.std.proofs.Common.{◌∙◌, ◌+◌, ◌*◌, ◌++◌, ◌<◌, length, drop, take, ap, arith}
use Rattle.std.proofs.lemmas.List.{take_more_set, length-set}
use Rattle.carrier_model.specs.HexDigits.{bytes_in}
use Rattle.prop_names.proofs.PairsOfDigits.{digits_more, bytes_more}
use Rattle.prop_names.proofs.hex_digits.guid_of_digits.Goals as goal

pub loop-k-preserved : goal.loop-k-preserved
loop-k-preserved c =
    let w = c.args.text.now in
    let here : c.loop-k.k < length c.loop-k.set = omega (arith, c.loop-k.invariant.long, c.loop-k-test.true) in
    record {
      digits = digits_more w c.loop-k.k c.in-Some.byte (omega (arith, c.loop-k-test.true, c.if-text-ne32.false)) c.in-Some.ensures c.loop-k.invariant.digits;
      bytes = ap (λ l. l ++ bytes_in (drop (2 * (c.loop-k.k + 1)) w)) (take_more_set c.loop-k.set c.loop-k.k c.in-Some.byte here)
          ∙ bytes_more w (take c.loop-k.k c.loop-k.set) c.loop-k.k c.in-Some.byte (omega (arith, c.loop-k-test.true, c.if-text-ne32.false)) c.in-Some.ensures c.loop-k.invariant.bytes;
      long = length-set c.loop-k.set c.loop-k.k c.in-Some.byte ∙ c.loop-k.invariant.long;
    }
