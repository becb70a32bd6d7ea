use Rattle.std.proofs.Common.{[], ◌∷◌, ◌++◌}
use Rattle.carrier_io.proofs.Known.{andthen, failing}
use Rattle.text_model.specs.TreeTexts.{counted}
use Rattle.tree_texts.proofs.lines.write_counted_line.Goals as goal

pub returns-in_err-write_indent : goal.returns-in_err-write_indent
returns-in_err-write_indent g c = failing (counted c.args.word.now c.args.n ++ 0x0A ∷ []) c.from_residual.ensures.0 c.in_err-write_indent.ensures

pub returns-in_err-write_counted : goal.returns-in_err-write_counted
returns-in_err-write_counted g c = andthen c.in_ok-write_indent.ensures (failing (0x0A ∷ []) c.from_residual-in_err-write_counted.ensures.0 c.in_err-write_counted.ensures)

pub returns : goal.returns
returns g c = andthen c.in_ok-write_indent.ensures (andthen c.in_ok-write_counted.ensures c.write_pieces.ensures)
