use Rattle.std.proofs.Common.{List, ◌∙◌, subst}
use Rattle.carrier_model.specs.Sorted.{IsStrictlySorted}
use Rattle.carrier_model.specs.Values.{Prop, prop_cmp}
use Rattle.tnef_message.proofs.Joins.{there}
use Rattle.tnef_message.proofs.sections.add.Goals as goal

pub returns-in-Err-Duplicate : goal.returns-in-Err-Duplicate
returns-in-Err-Duplicate c =
    let back = rw c.in-Err-Duplicate.field-0-is at c.in-Err-Duplicate.ensures.refused in
    let sorted = subst (λ (z : List Prop). IsStrictlySorted prop_cmp z) c.in-Err-Duplicate.ensures.err c.in-Err-Duplicate.ensures.sorted in
    c.in-Err-Duplicate.ensures.err ∙ there c.args.props.now c.args.prop sorted back.1
