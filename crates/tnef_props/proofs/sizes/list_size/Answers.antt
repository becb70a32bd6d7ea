use Rattle.std.proofs.Common.{length, take, ap, arith, take_all, length-append}
use Rattle.tnef_model.specs.TnefCanonical.{props_bytes, prop_bytes}
use Rattle.tnef_props.proofs.Lengths.{list_length}
use Rattle.carrier_io.proofs.Summed.{flat_map_more}
use Rattle.tnef_props.proofs.sizes.list_size.Goals as goal

pub loop-k-init : goal.loop-k-init
loop-k-init g c = λ names content e. omega (arith, c.frame_size-size.ensures content e)

pub loop-k-preserved : goal.loop-k-preserved
loop-k-preserved g c = λ names content e.
    let more = flat_map_more (prop_bytes names) c.args.props.now c.loop-k.k _ c.get.ensures in
    omega (arith, c.loop-k.invariant names content e, ap length more, length-append (props_bytes names (take c.loop-k.k c.args.props.now)) (prop_bytes names c.get.result.now), c.prop_size.ensures names, c.saturating_add-size.ensures)

pub returns : goal.returns
returns g c = λ names content e.
    let all = ap length (ap (props_bytes names) (take_all c.loop-k.k c.args.props.now (omega (arith, c.len-k-end.ensures, c.loop-k-test.false)))) in
    omega (arith, c.loop-k.invariant names content e, all, list_length names c.args.props.now content)
