use Rattle.std.proofs.Common.{◌≡◌, ◌++◌, [], length}
use Rattle.std.specs.BTreeMap.{IsOrdered}
use Rattle.carrier_model.specs.Values.{prop_cmp}
use Rattle.tree_edit.specs.PropChanges.{AreChanges, with_changes}
use Rattle.tree_edit.proofs.prop_changes.put_all.Given as goal

abbrev pub invariant-loop-list : goal.invariant-loop-list
invariant-loop-list g l = record {
  whole : l.list ++ with_changes l.changes.entries [] ≡ l.fn.list ++ with_changes l.fn.changes.entries [];
  own : AreChanges l.changes.entries;
  ordered : IsOrdered prop_cmp l.changes;
}

abbrev pub decreases-loop-list : goal.decreases-loop-list
decreases-loop-list g l = length l.changes.entries
