use Rattle.std.proofs.Common.{ap, length, arith, length-take}
use Rattle.prop_values.proofs.ObjectPlaces.{object_parts}
use Rattle.prop_values.proofs.prop_list.Props.count_before_object.Goals as goal

pub returns-clause-place : goal.returns-clause-place
returns-clause-place g c =
    let cut = c.count_before.ensures in
    let e = ap length ((object_parts c.args.self.now c.count_before.result cut).front) in
    omega (arith, e, cut.in_range, length-take c.count_before.result c.args.self.now)

pub returns-clause-before : goal.returns-clause-before
returns-clause-before g c = (object_parts c.args.self.now c.count_before.result c.count_before.ensures).front

pub returns-clause-behind : goal.returns-clause-behind
returns-clause-behind g c = (object_parts c.args.self.now c.count_before.result c.count_before.ensures).back
