use Rattle.std.proofs.Common.{[], ◌∷◌, ◌++◌}
use Rattle.carrier_io.proofs.Known.{andthen, failing}
use Rattle.tree_texts.proofs.lines.write_word_line.Goals as goal

pub returns-in_err-write_indent : goal.returns-in_err-write_indent
returns-in_err-write_indent g c = failing (c.args.word.now ++ 0x0A ∷ []) c.from_residual.ensures.0 c.in_err-write_indent.ensures

pub returns : goal.returns
returns g c = andthen c.in_ok-write_indent.ensures c.write_parts.ensures
