use Rattle.tree_samples.proofs.Made.{text_is}
use Rattle.tree_samples.proofs.small_props.text_prop.Goals as goal

pub invariant_of-result : goal.invariant_of-result
invariant_of-result c = text_is c.args.id c.args.text.now c.in_ok-wide_text.field-0.items c.requires.id c.requires.short c.in_ok-wide_text.ensures
