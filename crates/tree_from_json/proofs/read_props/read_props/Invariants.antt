use Rattle.carrier_model.specs.Sorted.{IsStrictlySorted}
use Rattle.carrier_model.specs.Values.{prop_cmp}
use Rattle.json_model.specs.Properties.{read_next_prop}
use Rattle.tree_from_json.proofs.Turns.{InTurn}
use Rattle.tree_from_json.proofs.read_props.read_props.Given as goal

abbrev pub invariant-loop-item : goal.invariant-loop-item
invariant-loop-item l = record {
  turn : InTurn read_next_prop l.props l.item-index l.values;
  sorted : IsStrictlySorted prop_cmp l.props;
}
