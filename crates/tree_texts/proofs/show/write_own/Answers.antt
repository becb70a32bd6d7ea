use Rattle.std.proofs.Common.{◌+◌, ◌++◌}
use Rattle.carrier_io.proofs.Known.{andthen, failing}
use Rattle.text_model.specs.TreeTexts.{prop_lines, recipient_lines}
use Rattle.tree_texts.proofs.show.write_own.Goals as goal

pub returns-in_err-write_word_line : goal.returns-in_err-write_word_line
returns-in_err-write_word_line g c = failing (prop_lines (c.args.indent + 2) c.args.props.now ++ recipient_lines (c.args.indent + 2) 0 c.args.recipients.now) c.from_residual.ensures.0 c.in_err-write_word_line.ensures

pub returns-in_err-write_props : goal.returns-in_err-write_props
returns-in_err-write_props g c = andthen c.in_ok-write_word_line.ensures (failing (recipient_lines (c.args.indent + 2) 0 c.args.recipients.now) c.from_residual-in_err-write_props.ensures.0 c.in_err-write_props.ensures)

pub returns : goal.returns
returns g c = andthen c.in_ok-write_word_line.ensures (andthen c.in_ok-write_props.ensures c.write_recipients.ensures)
