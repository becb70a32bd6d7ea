use Rattle.std.proofs.Common.{refl, arith}
use Rattle.tnef_writer.specs.Written.{list_alone}
use Rattle.tnef_props.specs.Named.{HasNames}
use Rattle.carrier_io.proofs.Summed.{loop_more, loop_stops}
use Rattle.tnef_props.proofs.WrittenValues.{all_at}
use Rattle.tnef_writer.proofs.StreamParts.{one_shorter}
use Rattle.tnef_writer.proofs.write_lists.append_lists.Goals as goal

pub append_list-requires-clause-fits : goal.append_list-requires-clause-fits
append_list-requires-clause-fits g c = omega (arith, c.requires.fits, one_shorter (list_alone c.args.names.now) c.args.recipients.now c.loop-k.k _ c.get.ensures)

pub append_list-requires-clause-known : goal.append_list-requires-clause-known
append_list-requires-clause-known g c = all_at (HasNames c.args.names.now) c.args.recipients.now _ _ c.requires.known c.get.ensures

pub returns-in_err-sum : goal.returns-in_err-sum
returns-in_err-sum g c = loop_stops (list_alone c.args.names.now) c.args.recipients.now c.loop-k.k _ c.get.ensures c.from_residual.ensures.0 c.loop-k.invariant c.in_err-sum.ensures

pub loop-k-preserved : goal.loop-k-preserved
loop-k-preserved g c = loop_more (list_alone c.args.names.now) c.args.recipients.now c.loop-k.k _ _ c.get.ensures refl c.loop-k.invariant c.in_ok-sum.ensures
