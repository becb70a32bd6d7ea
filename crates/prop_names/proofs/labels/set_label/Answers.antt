use Rattle.std.proofs.Common.{◌≡◌, ◌∙◌, length, rules}
use Rattle.prop_names.proofs.Texts.{labelled}
use Rattle.prop_names.proofs.labels.set_label.Goals as goal

pub returns-then-eq : goal.returns-then-eq
returns-then-eq c =
    let long : length c.args.set.now.0 ≡ 16 = search rules in
    c.label_of_field.ensures ∙ labelled c.args.set.now.0 c.u32_at.result c.eq.result long c.eq.ensures c.if-eq.true c.u32_at.ensures
