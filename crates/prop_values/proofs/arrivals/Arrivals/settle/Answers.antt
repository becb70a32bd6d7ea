use Rattle.std.proofs.Common.{◌≡◌, ◌∙◌, length, rules, arith}
use Rattle.carrier_model.specs.Keys.{id}
use Rattle.carrier_model.specs.Values.{Prop, with_pair}
use Rattle.prop_values.specs.Arranged.{AreInverse}
use Rattle.prop_values.specs.Arrivals.{AreOrdered, IsFirstDouble}
use Rattle.prop_values.proofs.Arriving.{nothing_in, in_order, settled_in_order, double_past, double_marked, arranged, arranged_sorted}
use Rattle.prop_values.proofs.arrivals.Arrivals.settle.Goals as goal

pub of_sorted-requires : goal.of_sorted-requires
of_sorted-requires g c =
    let none : length c.self.inside.marks.items ≡ 0 = search rules in
    in_order c.self.inside.list.items c.self.inside.marks.items (nothing_in c.self.inside.marks.items none) c.self.invariant

pub returns-then-is_empty-clause-settled : goal.returns-then-is_empty-clause-settled
returns-then-is_empty-clause-settled g c =
    let none : length c.self.inside.marks.items ≡ 0 = search rules in
    let s = settled_in_order c.self.inside.list.items (in_order c.self.inside.list.items c.self.inside.marks.items (nothing_in c.self.inside.marks.items none) c.self.invariant) in
    rw (← c.self.view_is) (c.of_sorted.ensures ∙ s.0, s.1)

pub overflow_sub-place : goal.overflow_sub-place
overflow_sub-place g c =
    let first : IsFirstDouble c.self.inside.list.items c.in-Double.place = rw (c.in-Double.is, c.deref.ensures.value) at c.in_ok-place.ensures in
    omega (arith, double_past c.self.inside.list.items c.self.inside.marks.items c.in-Double.place c.self.invariant first)

pub of_sorted-requires-in-Places : goal.of_sorted-requires-in-Places
of_sorted-requires-in-Places g c =
    let o : AreOrdered c.self.inside.list.items c.in-Places.places.items × AreInverse c.in-Places.places.items c.in-Places.ranks.items = rw (c.in-Places.is, c.deref.ensures.value) at c.in_ok-place.ensures in
    let d : Prop = with_pair (id 0) 0 in
    arranged_sorted c.self.inside.list.items _ (arranged c.self.inside.list.items c.arrange.new.list _ c.in-Places.places.items c.self.inside.list.len d o.0 (rw c.deref_mut.ensures.value at (c.arrange.ensures d)) (omega arith)) o.0.different

pub returns-in-Double-clause-refused : goal.returns-in-Double-clause-refused
returns-in-Double-clause-refused g c =
    let first : IsFirstDouble c.self.inside.list.items c.in-Double.place = rw (c.in-Double.is, c.deref.ensures.value) at c.in_ok-place.ensures in
    rw (← c.self.view_is) (λ all a. rw c.index.ensures (double_marked c.self.inside.list.items c.self.inside.marks.items c.in-Double.place _ c.index.result.now c.self.invariant first (omega arith) all a))

pub returns-in-Places-clause-settled : goal.returns-in-Places-clause-settled
returns-in-Places-clause-settled g c =
    let o : AreOrdered c.self.inside.list.items c.in-Places.places.items × AreInverse c.in-Places.places.items c.in-Places.ranks.items = rw (c.in-Places.is, c.deref.ensures.value) at c.in_ok-place.ensures in
    let d : Prop = with_pair (id 0) 0 in
    rw (← c.self.view_is) (c.of_sorted-in-Places.ensures ∙ arranged c.self.inside.list.items c.arrange.new.list _ c.in-Places.places.items c.self.inside.list.len d o.0 (rw c.deref_mut.ensures.value at (c.arrange.ensures d)) (omega arith), o.0.different)
