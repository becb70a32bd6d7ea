use Rattle.std.proofs.Common.{◌∷◌, ◌++◌, [], drop, ap, refl, sym, subst, ◌∙◌}
use Rattle.std.specs.Vec.Iter.{into_iter_items}
use Rattle.carrier_model.specs.Sorted.{IsStrictlySorted}
use Rattle.carrier_model.specs.Values.{prop_cmp}
use Rattle.carrier_model.proofs.SortedLists.{sorted_to}
use Rattle.tree_edit.specs.PropChanges.{AreChanges, first_put, with_changes}
use Rattle.tree_edit.proofs.PropChanges.{after_put, at_last, counted_on, left_sorted, named_sorted, rest_changes, spent, step_less, step_equal, step_greater, whole_sorted}
use Rattle.tree_edit.proofs.prop_changes.PropChanges.into_props.Goals as goal

pub put_first-requires : goal.put_first-requires
put_first-requires g c =
    let l = c.loop-next in
    let cs = l.changes.entries in
    let made = step_less l.merged c.args.self cs l.next c.in-Some.prop (into_iter_items l.items) l.invariant.whole c.in-Some.is l.invariant.own l.invariant.ordered l.invariant.sorted (sym c.in-Less.ensures) in
    let sorted = subst (IsStrictlySorted prop_cmp) c.self.view_is (whole_sorted c.self.inside.changes.entries c.self.inside.list c.self.invariant.1 c.self.invariant.0) in
    (with_changes (drop 1 cs) (c.in-Some.prop ∷ into_iter_items l.items), subst (IsStrictlySorted prop_cmp) (sym made) sorted)

pub loop-next-preserved-in-Less : goal.loop-next-preserved-in-Less
loop-next-preserved-in-Less g c =
    let l = c.loop-next in
    let cs = l.changes.entries in
    let made = step_less l.merged c.args.self cs l.next c.in-Some.prop (into_iter_items l.items) l.invariant.whole c.in-Some.is l.invariant.own l.invariant.ordered l.invariant.sorted (sym c.in-Less.ensures) in
    let kept = c.in_ok-put_first-in-Less.ensures in
    record {
      whole = after_put l.merged (first_put cs) c.put_first.new.list c.args.self (drop 1 cs) c.put_first.new.changes.entries (c.in-Some.prop ∷ into_iter_items l.items) kept.put kept.left made;
      own = subst AreChanges (sym kept.left) (rest_changes cs l.invariant.own);
      ordered = kept.ordered;
      sorted = named_sorted l.next c.in-Some.prop (into_iter_items l.items) c.in-Some.is l.invariant.sorted;
      counted = l.invariant.counted;
      ended = λ none. absurd cc;
    }

pub loop-next-preserved-in-Equal : goal.loop-next-preserved-in-Equal
loop-next-preserved-in-Equal g c =
    let l = c.loop-next in
    let cs = l.changes.entries in
    let given = c.next-next-in-Equal.ensures in
    let counted = counted_on c.next-next-in-Equal.result _ (into_iter_items c.next-next-in-Equal.new.self) _ _ given.items given.len l.invariant.counted in
    let made = step_equal l.merged c.args.self cs l.next c.in-Some.prop (into_iter_items l.items) l.invariant.whole c.in-Some.is l.invariant.own l.invariant.ordered (sym c.in-Equal.ensures) in
    record {
      whole = ap (λ m. l.merged ++ with_changes cs m) (sym given.items) ∙ made;
      own = l.invariant.own;
      ordered = l.invariant.ordered;
      sorted = left_sorted l.next c.in-Some.prop (into_iter_items l.items) _ c.in-Some.is given.items l.invariant.sorted;
      counted = counted;
      ended = spent c.next-next-in-Equal.result _ _ (into_iter_items c.next-next-in-Equal.new.self) _ given.cases counted;
    }

pub push_last-requires : goal.push_last-requires
push_last-requires g c =
    let l = c.loop-next in
    let cs = l.changes.entries in
    let made = step_greater l.merged c.args.self cs l.next c.in-Some.prop (into_iter_items l.items) l.invariant.whole c.in-Some.is l.invariant.own l.invariant.ordered (sym c.in-Greater.ensures) in
    let sorted = subst (IsStrictlySorted prop_cmp) c.self.view_is (whole_sorted c.self.inside.changes.entries c.self.inside.list c.self.invariant.1 c.self.invariant.0) in
    sorted_to prop_cmp l.merged (with_changes cs (into_iter_items l.items)) c.in-Some.prop (subst (IsStrictlySorted prop_cmp) (sym made) sorted)

pub loop-next-preserved : goal.loop-next-preserved
loop-next-preserved g c =
    let l = c.loop-next in
    let cs = l.changes.entries in
    let given = c.next-next-in-Greater.ensures in
    let counted = counted_on c.next-next-in-Greater.result _ (into_iter_items c.next-next-in-Greater.new.self) _ _ given.items given.len l.invariant.counted in
    let made = step_greater l.merged c.args.self cs l.next c.in-Some.prop (into_iter_items l.items) l.invariant.whole c.in-Some.is l.invariant.own l.invariant.ordered (sym c.in-Greater.ensures) in
    record {
      whole = after_put l.merged (c.in-Some.prop ∷ []) c.push_last.new.self c.args.self cs cs _ c.in_ok-push_last-in-Greater.ensures.ok refl (ap (λ m. l.merged ++ c.in-Some.prop ∷ with_changes cs m) (sym given.items) ∙ made);
      own = l.invariant.own;
      ordered = l.invariant.ordered;
      sorted = left_sorted l.next c.in-Some.prop (into_iter_items l.items) _ c.in-Some.is given.items l.invariant.sorted;
      counted = counted;
      ended = spent c.next-next-in-Greater.result _ _ (into_iter_items c.next-next-in-Greater.new.self) _ given.cases counted;
    }

pub put_all-requires-clause-sorted : goal.put_all-requires-clause-sorted
put_all-requires-clause-sorted g c =
    let l = c.loop-next in
    let made = at_last l.merged c.args.self l.changes.entries l.next (into_iter_items l.items) l.invariant.whole c.in_default.is (l.invariant.ended c.in_default.is) in
    let sorted = subst (IsStrictlySorted prop_cmp) c.self.view_is (whole_sorted c.self.inside.changes.entries c.self.inside.list c.self.invariant.1 c.self.invariant.0) in
    subst (IsStrictlySorted prop_cmp) (sym made) sorted
