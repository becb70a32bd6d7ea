use Rattle.std.proofs.Common.{◌++◌}
use Rattle.std.specs.List.{flat_map}
use Rattle.carrier_io.proofs.Known.{andthen, failing}
use Rattle.text_model.specs.TreeTexts.{count_lines, passed_line}
use Rattle.msg_tree.specs.Whole.{plain_of}
use Rattle.tree_texts.proofs.check.write_check.Goals as goal

pub returns-in_err-write_carrier : goal.returns-in_err-write_carrier
returns-in_err-write_carrier g c = failing (count_lines (plain_of c.args.tree.now) ++ flat_map passed_line c.args.passed.now) c.from_residual.ensures.0 c.in_err-write_carrier.ensures

pub returns-in_err-write_counts : goal.returns-in_err-write_counts
returns-in_err-write_counts g c = andthen c.in_ok-write_carrier.ensures (failing (flat_map passed_line c.args.passed.now) c.from_residual-in_err-write_counts.ensures.0 c.in_err-write_counts.ensures)

pub returns : goal.returns
returns g c = andthen c.in_ok-write_carrier.ensures (andthen c.in_ok-write_counts.ensures c.write_all_passed.ensures)
