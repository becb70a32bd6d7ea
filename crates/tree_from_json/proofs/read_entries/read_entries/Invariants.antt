use Rattle.tree_from_json.proofs.EntryLists.{AreHeld}
use Rattle.tree_from_json.proofs.read_entries.read_entries.Given as goal

abbrev pub invariant-loop-k : goal.invariant-loop-k
invariant-loop-k l = AreHeld l.kept.items l.last l.k l.values
