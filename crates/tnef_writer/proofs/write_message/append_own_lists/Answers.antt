use Rattle.std.proofs.Common.{refl, length-append, arith}
use Rattle.tnef_model.specs.LegacyAttributes.{MESSAGE_PROPS}
use Rattle.tnef_model.specs.TnefCanonical.{recipients_attribute, props_attribute}
use Rattle.tnef_writer.specs.Written.{list_alone}
use Rattle.carrier_io.proofs.Summed.{sums_both, sums_first, sums_second}
use Rattle.tnef_writer.proofs.StreamParts.{attribute_length}
use Rattle.tnef_writer.proofs.write_message.append_own_lists.Goals as goal

pub append_recipients-requires-clause-fits : goal.append_recipients-requires-clause-fits
append_recipients-requires-clause-fits g c = omega (arith, c.requires.fits, length-append (recipients_attribute c.args.names.now c.args.recipients.now) (props_attribute c.args.names.now c.args.props.now))

pub append_filled-requires-clause-fits : goal.append_filled-requires-clause-fits
append_filled-requires-clause-fits g c = omega (arith, c.requires.fits, length-append (recipients_attribute c.args.names.now c.args.recipients.now) (props_attribute c.args.names.now c.args.props.now), attribute_length 1 MESSAGE_PROPS (list_alone c.args.names.now c.args.props.now))

pub returns-in_err-table : goal.returns-in_err-table
returns-in_err-table g c = sums_first (props_attribute c.args.names.now c.args.props.now) c.from_residual.ensures.0 c.in_err-table.ensures

pub returns-in_err-list : goal.returns-in_err-list
returns-in_err-list g c = sums_second c.from_residual-in_err-list.ensures.0 c.in_ok-table.ensures c.in_err-list.ensures

pub returns : goal.returns
returns g c = sums_both _ refl c.in_ok-table.ensures c.in_ok-list.ensures
