use Rattle.std.proofs.Common.{◌<◌, length, take, sym, arith}
use Rattle.std.specs.List.{flat_map}
use Rattle.carrier_model.specs.KeyTexts.{hex_digits, lower}
use Rattle.carrier_io.proofs.Known.{andthen, failing}
use Rattle.tree_texts.proofs.Partly.{writes_as}
use Rattle.tree_texts.proofs.Lists.{shown_front}
use Rattle.tree_texts.proofs.quoted.write_front.Goals as goal

pub returns-in_err-write_pieces : goal.returns-in_err-write_pieces
returns-in_err-write_pieces g c =
    let x = g.B.Blob.bytes c.args.blob.now in
    let some : 0 < length x = omega (arith, c.len.ensures, c.if-len-eq0.false) in
    writes_as _ (sym (shown_front x some)) (failing (flat_map (hex_digits lower 2) (take 32 x)) c.from_residual.ensures.0 c.in_err-write_pieces.ensures)

pub returns : goal.returns
returns g c =
    let x = g.B.Blob.bytes c.args.blob.now in
    let some : 0 < length x = omega (arith, c.len.ensures, c.if-len-eq0.false) in
    writes_as _ (sym (shown_front x some)) (andthen c.in_ok-write_pieces.ensures c.write_first.ensures)
