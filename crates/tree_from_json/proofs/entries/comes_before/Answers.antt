use Rattle.std.proofs.Common.{◌∙◌, sym, arith}
use Rattle.tree_from_json.proofs.Paths.{before_past, before_whole}
use Rattle.tree_from_json.proofs.entries.comes_before.Goals as goal

pub returns-then-k-other : goal.returns-then-k-other
returns-then-k-other c = sym (c.loop-k.invariant ∙ before_past c.args.one.now c.args.other.now c.loop-k.k (omega (arith, c.loop-k-test.true)) c.if-k-other.true)

pub returns : goal.returns
returns c = before_whole c.args.one.now c.args.other.now c.loop-k.k (omega (arith, c.loop-k-test.false)) ∙ sym c.loop-k.invariant
