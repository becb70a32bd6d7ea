use Rattle.std.proofs.Common.{◌≡◌, ◌+◌, ◌++◌, [], length}
use Rattle.std.specs.Prelude.{None}
use Rattle.std.specs.BTreeMap.{IsOrdered}
use Rattle.std.specs.Option.{option_to_list}
use Rattle.std.specs.Vec.Iter.{into_iter_items, into_iter_len}
use Rattle.carrier_model.specs.Sorted.{IsStrictlySorted}
use Rattle.carrier_model.specs.Values.{prop_cmp}
use Rattle.tree_edit.specs.PropChanges.{AreChanges, with_changes}
use Rattle.tree_edit.proofs.prop_changes.PropChanges.into_props.Given as goal

abbrev pub invariant-loop-next : goal.invariant-loop-next
invariant-loop-next g l = record {
  whole : l.merged ++ with_changes l.changes.entries (option_to_list l.next ++ into_iter_items l.items) ≡ l.fn.self;
  own : AreChanges l.changes.entries;
  ordered : IsOrdered prop_cmp l.changes;
  sorted : IsStrictlySorted prop_cmp (option_to_list l.next ++ into_iter_items l.items);
  counted : into_iter_len l.items ≡ length (into_iter_items l.items);
  ended : l.next ≡ None → into_iter_items l.items ≡ [];
}

abbrev pub decreases-loop-next : goal.decreases-loop-next
decreases-loop-next g l = length (option_to_list l.next ++ into_iter_items l.items) + length l.changes.entries
