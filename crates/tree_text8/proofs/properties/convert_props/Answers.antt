use Rattle.std.proofs.Common.{sym, ◌∙◌}
use Rattle.tree_text8.proofs.Walked.{none_converted, none_bad}
use Rattle.tree_text8.proofs.properties.convert_props.Goals as goal

pub returns-else-any_to_convert-clause-good : goal.returns-else-any_to_convert-clause-good
returns-else-any_to_convert-clause-good g c = none_bad c.args.code c.args.props.now c.args.next.now c.args.props.now (sym c.any_to_convert.ensures.value ∙ c.if-any_to_convert.false)

pub returns-else-any_to_convert-clause-ok : goal.returns-else-any_to_convert-clause-ok
returns-else-any_to_convert-clause-ok g c = sym (none_converted c.args.code c.args.props.now c.args.props.now (sym c.any_to_convert.ensures.value ∙ c.if-any_to_convert.false))
