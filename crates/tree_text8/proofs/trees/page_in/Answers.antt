use Rattle.std.proofs.Common.{sym, ◌∙◌, ap, ◌+◌, drop}
use Rattle.carrier_model.proofs.Trees.{drop_at}
use Rattle.text8_model.specs.Unicode as plain
use Rattle.tree_text8.proofs.trees.page_in.Goals as goal

pub returns-in-Some : goal.returns-in-Some
returns-in-Some g c =
    let e = drop_at c.args.props.now c.loop-k.k c.get.result.now c.get.ensures in
    let own = sym c.page_named.ensures ∙ c.in-Some.is in
    sym (c.loop-k.invariant ∙ (ap (plain.page_in c.args.outer) e ∙ ap (λ o. plain.or_page o (plain.page_in c.args.outer (drop (c.loop-k.k + 1) c.args.props.now))) own))

pub loop-k-preserved : goal.loop-k-preserved
loop-k-preserved g c =
    let e = drop_at c.args.props.now c.loop-k.k c.get.result.now c.get.ensures in
    let own = sym c.page_named.ensures ∙ c.in_default.is in
    c.loop-k.invariant ∙ (ap (plain.page_in c.args.outer) e ∙ ap (λ o. plain.or_page o (plain.page_in c.args.outer (drop (c.loop-k.k + 1) c.args.props.now))) own)
