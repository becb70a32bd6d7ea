use Rattle.prop_values.proofs.Arranged.{Underway}
use Rattle.prop_values.proofs.arranging.arrange.Given as goal

abbrev pub invariant-loop-k : goal.invariant-loop-k
invariant-loop-k g l = Underway l.initial.list l.initial.places.items l.list l.places.items l.ranks.items l.k
