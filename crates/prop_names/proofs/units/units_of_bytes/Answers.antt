use Rattle.std.proofs.Common.{◌≡◌, ◌+◌, ◌*◌, ◌/◌, ◌<◌, ◌≤◌, length, get_or, ◌∙◌, arith}
use Rattle.prop_names.proofs.UnitSteps.{unit_set, units_set}
use Rattle.prop_names.proofs.units.units_of_bytes.Goals as goal

pub loop-k-preserved : goal.loop-k-preserved
loop-k-preserved c =
    let x = c.args.bytes.now in
    let k = c.loop-k.k in
    let u : c.from_le_bytes.result ≡ get_or x (2 * k) 0 + 256 * get_or x (2 * k + 1) 0 = omega (arith, c.from_le_bytes.ensures) in
    let lt : k < length x / 2 = omega (arith, c.loop-k-test.true, c.loop-k.invariant.0, c.len-k-end.ensures, c.in_ok-resize.ensures.len) in
    (c.loop-k.invariant.0, unit_set x c.loop-k.list.items k c.from_le_bytes.result c.loop-k.invariant.1 lt u)

pub returns : goal.returns
returns c =
    let le : length c.args.bytes.now / 2 ≤ c.loop-k.k = omega (arith, c.loop-k-test.false, c.len-k-end.ensures, c.in_ok-resize.ensures.len) in
    c.from_vec.ensures ∙ units_set c.args.bytes.now c.loop-k.list.items c.loop-k.k c.loop-k.invariant.1 le
