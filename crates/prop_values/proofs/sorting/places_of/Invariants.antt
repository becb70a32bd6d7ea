use Rattle.std.proofs.Common.{◌≡◌, map, take}
use Rattle.prop_values.proofs.sorting.places_of.Given as goal

abbrev pub invariant-loop-spot : goal.invariant-loop-spot
invariant-loop-spot g l = l.places.items ≡ map (λ s. s.place) (take l.spot-index l.spots)
