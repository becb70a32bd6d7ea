use Rattle.std.proofs.Common.{◌+◌}
use Rattle.json_model.specs.Parts.{number_below}
use Rattle.tree_from_json.proofs.Turns.{InTurn}
use Rattle.tree_from_json.proofs.read_lists.read_numbers.Given as goal

abbrev pub invariant-loop-item : goal.invariant-loop-item
invariant-loop-item l = InTurn (λ before. number_below (l.most + 1)) l.list l.item-index l.values
