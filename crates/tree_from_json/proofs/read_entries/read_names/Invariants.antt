use Rattle.std.proofs.Common.{◌≡◌, length}
use Rattle.json_model.specs.StoreForms.{MOST_NAME}
use Rattle.json_model.specs.Texts.{read_name}
use Rattle.tree_from_json.proofs.Turns.{InTurn}
use Rattle.tree_from_json.proofs.read_entries.read_names.Given as goal

abbrev pub invariant-loop-k : goal.invariant-loop-k
invariant-loop-k l = record {
  count : length l.names.items ≡ l.k;
  turns : InTurn (λ before. read_name MOST_NAME) l.names.items l.k l.values;
}
