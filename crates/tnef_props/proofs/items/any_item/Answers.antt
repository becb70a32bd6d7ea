use Rattle.std.proofs.Common.{ℕ}
use Rattle.std.proofs.lemmas.Result.{IfOk-weaker, IfErr-weaker}
use Rattle.carrier_model.specs.Grammar.{placed}
use Rattle.tnef_model.specs.TnefLists.{any_item, described, tag}
use Rattle.tnef_props.specs.Meaning.{item_of}
use Rattle.tnef_props.proofs.Forms.{then_takes, then_next, placed_takes}
use Rattle.tnef_props.proofs.items.any_item.Goals as goal

pub returns-clause-found : goal.returns-clause-found
unfolding any_item
returns-clause-found c =
    let x = c.in_ok-tag in
    IfOk-weaker c.described.result _ _ (λ y p. then_takes (placed tag) (λ (t : ℕ × ℕ). described c.args.in_attachment t.0 t.1) c.args.from x.rest y.1 (c.args.from.place, x.tag) (item_of y.0) (placed_takes tag c.args.from x.rest x.tag x.ensures.found) p) c.described.ensures.found

pub returns-clause-fault : goal.returns-clause-fault
unfolding any_item
returns-clause-fault c =
    let x = c.in_ok-tag in
    IfErr-weaker c.described.result _ _ (λ s p. then_next (placed tag) (λ (t : ℕ × ℕ). described c.args.in_attachment t.0 t.1) c.args.from x.rest (c.args.from.place, x.tag) s (placed_takes tag c.args.from x.rest x.tag x.ensures.found) p) c.described.ensures.fault
