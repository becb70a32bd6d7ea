use Rattle.std.proofs.Common.{◌≡◌, ◌++◌}
use Rattle.cfb_list.specs.Places.{places_of}
use Rattle.cfb_list.proofs.sorting.push_places.Given as goal

abbrev pub invariant-loop-number : goal.invariant-loop-number
invariant-loop-number l = l.places.items ≡ l.initial.places.items ++ places_of l.file 0 l.number
