use Rattle.std.proofs.Common.{refl}
use Rattle.carrier_model.specs.Bytes.{le16}
use Rattle.carrier_io.proofs.Summed.{loop_more, loop_stops}
use Rattle.tnef_props.proofs.writing_keys.append_units.Goals as goal

pub returns-in_err-sum : goal.returns-in_err-sum
returns-in_err-sum g c = loop_stops le16 c.args.units.now c.loop-k.k _ c.get.ensures c.from_residual.ensures.0 c.loop-k.invariant (rw c.le16.ensures at c.in_err-sum.ensures)

pub loop-k-preserved : goal.loop-k-preserved
loop-k-preserved g c = loop_more le16 c.args.units.now c.loop-k.k _ _ c.get.ensures refl c.loop-k.invariant (rw c.le16.ensures at c.in_ok-sum.ensures)
