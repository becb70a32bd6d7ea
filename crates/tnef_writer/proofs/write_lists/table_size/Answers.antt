use Rattle.std.proofs.Common.{None, length, take, ap, refl, arith, take_all, length-append}
use Rattle.std.specs.List.{flat_map}
use Rattle.tnef_writer.specs.Written.{list_alone}
use Rattle.carrier_io.proofs.Summed.{flat_map_more}
use Rattle.tnef_writer.proofs.write_lists.table_size.Goals as goal

pub loop-k-preserved : goal.loop-k-preserved
loop-k-preserved g c = λ names.
    let more = flat_map_more (list_alone names) c.args.recipients.now c.loop-k.k _ c.get.ensures in
    omega (arith, c.loop-k.invariant names, ap length more, length-append (flat_map (list_alone names) (take c.loop-k.k c.args.recipients.now)) (list_alone names c.get.result.now), c.list_size.ensures names None refl, c.saturating_add-size.ensures)

pub returns : goal.returns
returns g c = λ names.
    let all = ap length (ap (flat_map (list_alone names)) (take_all c.loop-k.k c.args.recipients.now (omega (arith, c.len-k-end.ensures, c.loop-k-test.false)))) in
    omega (arith, c.loop-k.invariant names, all)
