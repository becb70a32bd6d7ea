use Rattle.std.proofs.Common.{◌∙◌, ◌+◌, ◌*◌, ◌<◌, length, take, get_or, arith}
use Rattle.std.proofs.lemmas.Bool.{and_parts}
use Rattle.json_writer.proofs.Lists.{field_is, take_two}
use Rattle.json_writer.proofs.PlainRuns.{lone_more}
use Rattle.json_writer.proofs.plain.are_lone.Goals as goal

pub loop-k-preserved : goal.loop-k-preserved
loop-k-preserved c all =
    let xs = c.args.bytes.now in
    let k = c.loop-k.k in
    let both : 2 * k + 1 < length xs = omega (arith, c.loop-k-test.true, c.loop-k.auto.k-end) in
    let tests = and_parts c.loop-k.lone c.is_lone-lone.result all in
    let before = c.loop-k.invariant tests.0 in
    (before.0, lone_more (take (2 * k) xs) _ (get_or xs (2 * k) 0) (get_or xs (2 * k + 1) 0) (take_two xs k 0 both) before.1 (rw (c.u16_at.ensures ∙ field_is xs k both) at (c.is_lone-lone.ensures tests.1)))
