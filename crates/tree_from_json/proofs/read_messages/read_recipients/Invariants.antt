use Rattle.std.proofs.Common.{◌≡◌, length}
use Rattle.json_model.specs.Properties.{read_props}
use Rattle.tree_from_json.proofs.Turns.{InTurn}
use Rattle.tree_from_json.proofs.read_messages.read_recipients.Given as goal

abbrev pub invariant-loop-k : goal.invariant-loop-k
invariant-loop-k l = record {
  count : length l.all ≡ l.k;
  turns : InTurn (λ before. read_props) l.all l.k l.values;
}
