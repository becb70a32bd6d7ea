use Rattle.std.proofs.Common.{◌++◌, refl, length-append, arith}
use Rattle.tnef_model.specs.TnefCanonical.{front, page_attribute, recipients_attribute, props_attribute}
use Rattle.carrier_io.proofs.Summed.{sums_both, sums_first, sums_second}
use Rattle.tnef_writer.proofs.StreamParts.{own_length}
use Rattle.tnef_writer.proofs.write_message.append_own.Goals as goal

pub append_own_lists-requires-clause-fits : goal.append_own_lists-requires-clause-fits
append_own_lists-requires-clause-fits g c = omega (arith, c.requires.fits, own_length c.args.names.now c.args.props.now c.args.recipients.now, length-append (recipients_attribute c.args.names.now c.args.recipients.now) (props_attribute c.args.names.now c.args.props.now))

pub returns-in_err-start : goal.returns-in_err-start
returns-in_err-start g c =
    let lists = recipients_attribute c.args.names.now c.args.recipients.now ++ props_attribute c.args.names.now c.args.props.now in
    sums_first {x = front ++ page_attribute c.args.props.now} lists c.from_residual.ensures.0 c.in_err-start.ensures

pub returns-in_err-lists : goal.returns-in_err-lists
returns-in_err-lists g c = sums_second {x = front ++ page_attribute c.args.props.now} c.from_residual-in_err-lists.ensures.0 c.in_ok-start.ensures c.in_err-lists.ensures

pub returns : goal.returns
returns g c = sums_both {x = front ++ page_attribute c.args.props.now} _ refl c.in_ok-start.ensures c.in_ok-lists.ensures
