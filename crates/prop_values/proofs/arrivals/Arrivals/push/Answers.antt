use Rattle.std.proofs.Common.{◌≡◌, length, rules}
use Rattle.prop_values.specs.Arrivals.{IsAboveLast}
use Rattle.prop_values.proofs.Arriving.{nothing_in, risen, marked, marks_past}
use Rattle.prop_values.proofs.arrivals.Arrivals.push.Goals as goal

pub invariant_of-self-then-is_above : goal.invariant_of-self-then-is_above
invariant_of-self-then-is_above g c =
    let none : length c.self.inside.marks.items ≡ 0 = search rules in
    let above : IsAboveLast c.self.inside.list.items c.args.prop = rw c.deref.ensures.value at (c.is_above.ensures c.if-is_above.true) in
    rw c.in_ok-push.ensures.items (risen c.self.inside.list.items c.self.inside.marks.items _ (nothing_in c.self.inside.marks.items none) c.self.invariant above)

pub returns-then-is_above-clause-marked : goal.returns-then-is_above-clause-marked
returns-then-is_above-clause-marked g c =
    let none : length c.self.inside.marks.items ≡ 0 = search rules in
    let empty = nothing_in c.self.inside.marks.items none in
    rw (← c.self.view_is) (marks_past _ _ _ c.args.mark empty empty c.in_ok-push.ensures.items)

pub invariant_of-self-2 : goal.invariant_of-self-2
invariant_of-self-2 g c = rw (c.in_ok-push-3.ensures.items, c.in_ok-push-2.ensures.items, c.reserve.ensures.items) (marked c.self.inside.list.items c.self.inside.marks.items _ c.args.mark c.self.invariant)
