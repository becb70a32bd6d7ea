use Rattle.std.proofs.Common.{[], ◌∷◌, ◌++◌}
use Rattle.carrier_io.proofs.Known.{andthen, failing}
use Rattle.text_model.specs.TreeTexts.{prop_text}
use Rattle.tree_texts.proofs.props.write_prop_line.Goals as goal

pub returns-in_err-write_indent : goal.returns-in_err-write_indent
returns-in_err-write_indent g c = failing (prop_text c.args.prop.now ++ 0x0A ∷ []) c.from_residual.ensures.0 c.in_err-write_indent.ensures

pub returns-in_err-write_prop : goal.returns-in_err-write_prop
returns-in_err-write_prop g c = andthen c.in_ok-write_indent.ensures (failing (0x0A ∷ []) c.from_residual-in_err-write_prop.ensures.0 c.in_err-write_prop.ensures)

pub returns : goal.returns
returns g c = andthen c.in_ok-write_indent.ensures (andthen c.in_ok-write_prop.ensures c.write_pieces.ensures)
