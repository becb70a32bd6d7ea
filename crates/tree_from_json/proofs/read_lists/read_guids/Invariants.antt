use Rattle.json_model.specs.Digits.{read_guid}
use Rattle.tree_from_json.proofs.Turns.{InTurn}
use Rattle.tree_from_json.proofs.read_lists.read_guids.Given as goal

abbrev pub invariant-loop-item : goal.invariant-loop-item
invariant-loop-item l = InTurn (λ before. read_guid) l.list l.item-index l.values
