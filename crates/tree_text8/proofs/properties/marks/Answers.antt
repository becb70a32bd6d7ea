use Rattle.std.proofs.Common.{◌∙◌, ap, ◌++◌, ◌∷◌, []}
use Rattle.text8_model.specs.Unicode.{is_to_convert}
use Rattle.tree_text8.proofs.Elements.{made_more}
use Rattle.tree_text8.proofs.properties.marks.Goals as goal

pub loop-k-preserved : goal.loop-k-preserved
loop-k-preserved g c = made_more (is_to_convert c.args.props.now) c.args.props.now c.loop-k.k c.get.result.now c.loop-k.marks.items _ c.loop-k.invariant c.get.ensures (c.in_ok-push.ensures.items ∙ ap (λ b. c.loop-k.marks.items ++ b ∷ []) c.is_to_convert.ensures.is)
