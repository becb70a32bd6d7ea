use Rattle.std.proofs.Common.{refl}
use Rattle.tnef_props.specs.Written.{number_field}
use Rattle.carrier_io.proofs.Summed.{loop_more, loop_stops}
use Rattle.tnef_props.proofs.writing_values.append_numbers.Goals as goal

pub returns-in_err-sum : goal.returns-in_err-sum
returns-in_err-sum g c = loop_stops (number_field c.args.wide) c.args.list.now c.loop-k.k _ c.get.ensures c.from_residual.ensures.0 c.loop-k.invariant c.in_err-sum.ensures

pub loop-k-preserved : goal.loop-k-preserved
loop-k-preserved g c = loop_more (number_field c.args.wide) c.args.list.now c.loop-k.k _ _ c.get.ensures refl c.loop-k.invariant c.in_ok-sum.ensures
