use Rattle.std.proofs.Common.{[], ◌∷◌, ◌++◌}
use Rattle.carrier_io.proofs.Known.{andthen, failing}
use Rattle.text_model.specs.TreeTexts.{store_text}
use Rattle.msg_tree.specs.StoreMeaning.{store_of}
use Rattle.tree_texts.proofs.store_totals.write_store.Goals as goal

pub returns-in_err-write_indent : goal.returns-in_err-write_indent
returns-in_err-write_indent g c = failing (store_text (store_of g.B.Blob.bytes c.args.store.now) ++ 0x0A ∷ []) c.from_residual.ensures.0 c.in_err-write_indent.ensures

pub returns-in_err-write_totals : goal.returns-in_err-write_totals
returns-in_err-write_totals g c = andthen c.in_ok-write_indent.ensures (failing (0x0A ∷ []) c.from_residual-in_err-write_totals.ensures.0 c.in_err-write_totals.ensures)

pub returns : goal.returns
returns g c = andthen c.in_ok-write_indent.ensures (andthen c.in_ok-write_totals.ensures c.write_pieces.ensures)
