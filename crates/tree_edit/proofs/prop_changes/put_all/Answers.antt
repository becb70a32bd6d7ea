use Rattle.std.proofs.Common.{[], drop, sym, subst}
use Rattle.carrier_model.specs.Sorted.{IsStrictlySorted}
use Rattle.carrier_model.specs.Values.{prop_cmp}
use Rattle.tree_edit.specs.PropChanges.{AreChanges, first_put, with_changes}
use Rattle.tree_edit.proofs.PropChanges.{after_put, rest_changes, step_end}
use Rattle.tree_edit.proofs.prop_changes.put_all.Goals as goal

pub put_first-requires : goal.put_first-requires
put_first-requires g c =
    let cs = c.loop-list.changes.entries in
    let made = step_end c.loop-list.list _ cs c.loop-list.invariant.whole c.loop-list.invariant.own c.loop-list.invariant.ordered in
    (with_changes (drop 1 cs) [], subst (IsStrictlySorted prop_cmp) (sym made) c.requires.sorted)

pub loop-list-preserved : goal.loop-list-preserved
loop-list-preserved g c =
    let cs = c.loop-list.changes.entries in
    let made = step_end c.loop-list.list _ cs c.loop-list.invariant.whole c.loop-list.invariant.own c.loop-list.invariant.ordered in
    let kept = c.in_ok-put_first.ensures in
    record {
      whole = after_put c.loop-list.list (first_put cs) c.put_first.new.list _ (drop 1 cs) c.put_first.new.changes.entries [] kept.put kept.left made;
      own = subst AreChanges (sym kept.left) (rest_changes cs c.loop-list.invariant.own);
      ordered = kept.ordered;
    }
