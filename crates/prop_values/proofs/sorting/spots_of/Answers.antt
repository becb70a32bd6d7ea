use Rattle.std.proofs.Common.{refl}
use Rattle.prop_values.proofs.Spots.{gathered_more, gathered_ranked}
use Rattle.prop_values.proofs.sorting.spots_of.Goals as goal

pub loop-place-preserved : goal.loop-place-preserved
loop-place-preserved g c =
    rw c.in_ok-push.ensures.items (gathered_more (λ s. s.prop.now) (λ s. s.rank) (λ s. s.place) c.first_set-set.result.0 c.args.list.now c.loop-place.spots.items c.loop-place.place _ c.loop-place.invariant c.loop-place-test.true c.index-list-place.is refl c.rank-rank.ensures)

pub returns-clause-ranked : goal.returns-clause-ranked
returns-clause-ranked g c = gathered_ranked (λ s. s.prop.now) (λ s. s.rank) (λ s. s.place) c.first_set-set.result.0 c.args.list.now c.loop-place.spots.items c.loop-place.place c.loop-place.invariant
