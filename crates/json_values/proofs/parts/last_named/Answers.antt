use Rattle.std.proofs.Common.{◌∙◌, ◌++◌, ◌∷◌, [], sym, ap, take, Bool, cond, Some, option_map, arith}
use Rattle.std.proofs.lemmas.List.{take_more}
use Rattle.json.specs.Find.{get_member}
use Rattle.json_values.specs.Values.{value_view, json_members}
use Rattle.json_values.proofs.Values.{one_more_named}
use Rattle.json_values.proofs.parts.last_named.Goals as goal
use Rattle.json_values.proofs.parts.last_named.Goals.{then-eq, else-eq}

pub loop-member-preserved : goal.loop-member-preserved
loop-member-preserved c =
    let ms = c.args.members.now in
    let k = c.loop-member.member-index in
    let m = c.member-item.result in
    let name = c.args.name.now in
    let front = take_more ms k m (omega (arith, c.loop-member-test.true)) ∙ ap (λ y. take k ms ++ y ∷ []) (sym c.member-item.is) in
    let step = ap (λ l. get_member name (json_members l)) front ∙ one_more_named name (take k ms) m in
    let pick = λ (b : Bool). cond b (Some (value_view m.1)) (get_member name (json_members (take k ms))) in
    elim c.if-eq.branch [
      | then-eq w ↦ ap (option_map (λ v. value_view v.now)) w.last-is ∙ sym (step ∙ ap pick (sym c.eq.ensures ∙ w.if-eq.true))
      | else-eq w ↦ ap (option_map (λ v. value_view v.now)) w.last-is ∙ (c.loop-member.invariant ∙ sym (step ∙ ap pick (sym c.eq.ensures ∙ w.if-eq.false)))
    ]
