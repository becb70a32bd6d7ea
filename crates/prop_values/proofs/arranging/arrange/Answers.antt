use Rattle.std.proofs.Common.{◌≡◌, ◌∙◌, ◌<◌, length, get_or, arith}
use Rattle.std.proofs.lemmas.List.{get_or_default}
use Rattle.prop_values.proofs.Arranged.{underway_more, underway_all}
use Rattle.prop_values.proofs.arranging.arrange.Goals as goal

pub loop-k-preserved : goal.loop-k-preserved
loop-k-preserved g c =
    let l = c.loop-k in
    let lt : l.k < length c.args.list.now = omega (arith, c.loop-k-test.true, l.invariant.same_list) in
    let from : c.index-from.result.now ≡ get_or l.places.items l.k 0 = c.index-from.ensures ∙ get_or_default l.places.items l.k c.index-from.result.now 0 (omega (arith, lt, l.invariant.same_places)) in
    let rank : c.index-rank.result.now ≡ get_or l.ranks.items l.k 0 = c.index-rank.ensures ∙ get_or_default l.ranks.items l.k c.index-rank.result.now 0 (omega (arith, lt, l.invariant.same_ranks)) in
    rw (from, rank) (underway_more c.args.list.now c.args.places.items l.list l.places.items l.ranks.items l.k l.invariant lt c.swap.new.self c.swap.ensures.len (rw from at c.swap.ensures.by_index))

pub returns : goal.returns
returns g c = underway_all c.args.list.now c.args.places.items c.loop-k.list c.loop-k.places.items c.loop-k.ranks.items c.loop-k.k c.loop-k.invariant (omega (arith, c.loop-k-test.false))
