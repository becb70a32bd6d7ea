use Rattle.std.proofs.Common.{◌≡◌, ◌==◌, ◌+◌, length, []}
use Rattle.std.specs.List.{slice_split}
use Rattle.std.specs.Option.{option_map_or}
use Rattle.edit_model.specs.EditWords.{place_from, place_of}
use Rattle.edit_words.proofs.places.read_place.Given as goal

abbrev pub invariant-loop-left : goal.invariant-loop-left
invariant-loop-left l = place_from l.path (option_map_or (λ rest. slice_split (λ c. c == 0x2F) rest.now) l.left []) ≡ place_of l.word

abbrev pub decreases-loop-left : goal.decreases-loop-left
decreases-loop-left l = option_map_or (λ rest. length rest.now + 1) l.left 0
