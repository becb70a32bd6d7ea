use Rattle.std.proofs.Common.{refl, arith}
use Rattle.tnef_model.specs.TnefCanonical.{prop_bytes}
use Rattle.carrier_model.specs.Values.{Prop}
use Rattle.tnef_props.specs.Named.{between, HasKey}
use Rattle.tnef_props.proofs.PartsOfLists.{between_at}
use Rattle.carrier_io.proofs.Summed.{loop_more, loop_stops}
use Rattle.tnef_props.proofs.WrittenValues.{all_at}
use Rattle.tnef_props.proofs.ranges.append_range.Goals as goal

pub append_prop-requires-clause-known : goal.append_prop-requires-clause-known
append_prop-requires-clause-known g c = all_at (λ (p : Prop). HasKey c.args.names.now p.key) c.args.props.now _ _ c.requires.known c.get.ensures

pub returns-in_err-sum : goal.returns-in_err-sum
returns-in_err-sum g c =
    let at = between_at c.args.from c.args.to c.args.props.now c.loop-k.k _ (omega (arith, c.loop-k-test.true)) c.get.ensures in
    loop_stops (prop_bytes c.args.names.now) (between c.args.from c.args.to c.args.props.now) c.loop-k.k _ at c.from_residual.ensures.0 c.loop-k.invariant c.in_err-sum.ensures

pub loop-k-preserved : goal.loop-k-preserved
loop-k-preserved g c =
    let at = between_at c.args.from c.args.to c.args.props.now c.loop-k.k _ (omega (arith, c.loop-k-test.true)) c.get.ensures in
    loop_more (prop_bytes c.args.names.now) (between c.args.from c.args.to c.args.props.now) c.loop-k.k _ _ at refl c.loop-k.invariant c.in_ok-sum.ensures
