use Rattle.prop_values.proofs.Arranged.{Ranked}
use Rattle.prop_values.proofs.arranging.inverse_of.Given as goal

abbrev pub invariant-loop-k : goal.invariant-loop-k
invariant-loop-k l = Ranked l.places.items l.ranks.items l.k
