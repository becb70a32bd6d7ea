use Rattle.std.proofs.Common.{sym, ◌∙◌}
use Rattle.text8_model.specs.Unicode.{is_to_convert}
use Rattle.tree_text8.proofs.Selves.{any_found, any_later}
use Rattle.tree_text8.proofs.properties.any_to_convert.Goals as goal

pub loop-k-preserved : goal.loop-k-preserved
loop-k-preserved g c = any_later (is_to_convert c.args.props.now) c.args.props.now c.loop-k.k c.get.result.now c.get.ensures (sym c.is_to_convert.ensures.is ∙ c.if-is_to_convert.false) c.loop-k.invariant

pub returns-then-is_to_convert-clause-value : goal.returns-then-is_to_convert-clause-value
returns-then-is_to_convert-clause-value g c = sym (any_found (is_to_convert c.args.props.now) c.args.props.now c.loop-k.k c.get.result.now c.get.ensures (sym c.is_to_convert.ensures.is ∙ c.if-is_to_convert.true) c.loop-k.invariant)
