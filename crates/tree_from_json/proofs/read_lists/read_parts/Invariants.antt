use Rattle.json_model.specs.Properties.{read_bytes}
use Rattle.prop_values.specs.Kinds.{kind_number}
use Rattle.tree_from_json.proofs.Turns.{InTurn}
use Rattle.tree_from_json.proofs.read_lists.read_parts.Given as goal

abbrev pub invariant-loop-item : goal.invariant-loop-item
invariant-loop-item l = InTurn (λ before. read_bytes (kind_number l.kind)) l.list l.item-index l.values
