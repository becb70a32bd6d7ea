use Rattle.std.proofs.Common.{◌++◌, take, codes}
use Rattle.text_model.specs.ValueTexts.{front_text, SHOWN}
use Rattle.carrier_io.proofs.Known.{andthen, failing}
use Rattle.tree_texts.proofs.quoted.write_binary.Goals as goal

pub returns-in_err-write_decimal : goal.returns-in_err-write_decimal
returns-in_err-write_decimal g c = failing (codes " bytes" ++ front_text (take SHOWN (g.B.Blob.bytes c.args.blob.now))) c.from_residual.ensures.0 (rw c.len.ensures at c.in_err-write_decimal.ensures)

pub returns-in_err-write_pieces : goal.returns-in_err-write_pieces
returns-in_err-write_pieces g c = andthen (rw c.len.ensures at c.in_ok-write_decimal.ensures) (failing (front_text (take SHOWN (g.B.Blob.bytes c.args.blob.now))) c.from_residual-in_err-write_pieces.ensures.0 c.in_err-write_pieces.ensures)

pub returns : goal.returns
returns g c = andthen (rw c.len.ensures at c.in_ok-write_decimal.ensures) (andthen c.in_ok-write_pieces.ensures c.write_front.ensures)
