use Rattle.std.proofs.Common.{◌<◌, ◌∙◌, take, drop, arith}
use Rattle.std.specs.Int.{w64, from_be_bytes}
use Rattle.std.specs.Ordering.{nat_cmp, ordering_then}
use Rattle.prop_names.proofs.SetOrder.{halves}
use Rattle.prop_names.proofs.names.set_order.Goals as goal

pub returns : goal.returns
returns c =
    let below : from_be_bytes w64 (take 8 (drop 8 c.args.one.now)) < 18446744073709551616 = omega (arith, c.high_at-3.type_inv, c.high_at-3.ensures) in
    let under : from_be_bytes w64 (take 8 (drop 8 c.args.other.now)) < 18446744073709551616 = omega (arith, c.high_at-4.type_inv, c.high_at-4.ensures) in
    c.then.ensures
    ∙ (λ t. ordering_then (c.cmp-fronts.ensures t) (c.cmp-backs.ensures t))
    ∙ (λ t. ordering_then (nat_cmp (c.high_at.ensures t) (c.high_at-2.ensures t)) (nat_cmp (c.high_at-3.ensures t) (c.high_at-4.ensures t)))
    ∙ halves c.args.one.now c.args.other.now c.told-one c.told-other c.fits-one c.fits-other below under
