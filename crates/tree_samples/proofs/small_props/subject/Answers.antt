use Rattle.std.proofs.Common.{◌++◌, ap, length, length-append, arith}
use Rattle.std.specs.Prelude.{codes, decimal}
use Rattle.std.proofs.lemmas.Fmt.{length-decimal-le}
use Rattle.tree_samples.proofs.small_props.subject.Goals as goal

pub text_prop-requires-clause-short : goal.text_prop-requires-clause-short
text_prop-requires-clause-short c =
    let digits = length-decimal-le 10 c.args.number (omega arith) (omega (arith, c.ranges.number)) (omega (arith, c.ranges.number)) in
    omega (arith, ap length c.deref.ensures, ap length c.in_ok-text.ensures.ok, length-append c.args.word.now (codes " " ++ decimal c.args.number), digits, c.requires)
