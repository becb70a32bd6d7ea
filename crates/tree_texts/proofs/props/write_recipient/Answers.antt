use Rattle.std.proofs.Common.{◌+◌}
use Rattle.carrier_io.proofs.Known.{andthen, failing}
use Rattle.text_model.specs.TreeTexts.{prop_lines}
use Rattle.tree_texts.proofs.props.write_recipient.Goals as goal

pub returns-in_err-write_counted_line : goal.returns-in_err-write_counted_line
returns-in_err-write_counted_line g c = failing (prop_lines (c.args.indent + 2) c.args.props.now) c.from_residual.ensures.0 c.in_err-write_counted_line.ensures

pub returns : goal.returns
returns g c = andthen c.in_ok-write_counted_line.ensures c.write_props.ensures
