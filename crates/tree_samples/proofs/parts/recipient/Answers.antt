use Rattle.std.proofs.Common.{ap, length, arith}
use Rattle.std.proofs.lemmas.Fmt.{length-decimal-le}
use Rattle.tree_samples.proofs.parts.recipient.Goals as goal

pub text_prop-requires-clause-short : goal.text_prop-requires-clause-short
text_prop-requires-clause-short c =
    let digits = length-decimal-le 10 c.args.number (omega arith) (omega (arith, c.ranges.number)) (omega (arith, c.ranges.number)) in
    omega (arith, ap length c.deref.ensures, ap length c.in_ok-text.ensures.ok, digits)
