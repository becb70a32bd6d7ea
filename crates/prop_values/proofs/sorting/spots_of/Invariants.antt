use Rattle.prop_values.proofs.Spots.{Gathered}
use Rattle.prop_values.proofs.sorting.spots_of.Given as goal

abbrev pub invariant-loop-place : goal.invariant-loop-place
invariant-loop-place g l = Gathered (λ s. s.prop.now) (λ s. s.rank) (λ s. s.place) l.set.0 l.list l.spots.items l.place
