use Rattle.std.proofs.Common.{sym, ◌∙◌}
use Rattle.tree_text8.specs.Narrow.{are_narrow}
use Rattle.tree_text8.proofs.Selves.{any_found, any_later}
use Rattle.tree_text8.proofs.narrow.any_recipient_is_narrow.Goals as goal

pub returns-then-any_to_convert : goal.returns-then-any_to_convert
returns-then-any_to_convert g c = sym (any_found are_narrow c.args.recipients.now c.loop-k.k c.get.result.now c.get.ensures (sym c.any_to_convert.ensures.value ∙ c.if-any_to_convert.true) c.loop-k.invariant)

pub loop-k-preserved : goal.loop-k-preserved
loop-k-preserved g c = any_later are_narrow c.args.recipients.now c.loop-k.k c.get.result.now c.get.ensures (sym c.any_to_convert.ensures.value ∙ c.if-any_to_convert.false) c.loop-k.invariant
