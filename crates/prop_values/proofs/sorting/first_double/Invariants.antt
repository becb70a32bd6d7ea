use Rattle.prop_values.specs.Arrivals.{IsLeastDouble}
use Rattle.prop_values.proofs.sorting.first_double.Given as goal

abbrev pub invariant-loop-k : goal.invariant-loop-k
invariant-loop-k g l = IsLeastDouble l.spots (λ s. s.prop.now) (λ s. s.place) l.k l.first
