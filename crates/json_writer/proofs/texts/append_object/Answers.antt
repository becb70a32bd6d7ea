use Rattle.std.proofs.Common.{◌++◌}
use Rattle.std.specs.Prelude.{codes}
use Rattle.json_model.specs.Digits.{hex}
use Rattle.json_writer.proofs.Counted.{andthen, failing, counts_as}
use Rattle.json_writer.proofs.HexStrings.{object_of_digits}
use Rattle.json_writer.proofs.texts.append_object.Goals as goal

pub returns-in_err-append : goal.returns-in_err-append
returns-in_err-append g c =
    let bytes = g.T.Utf16Bytes.bytes c.args.text.now in
    counts_as _ (object_of_digits bytes) (failing (hex bytes ++ codes "\"}") c.from_residual.ensures.0 c.in_err-append.ensures)

pub returns-in_err-append_hex : goal.returns-in_err-append_hex
returns-in_err-append_hex g c =
    let bytes = g.T.Utf16Bytes.bytes c.args.text.now in
    counts_as _ (object_of_digits bytes) (andthen c.in_ok-append.ensures (failing (codes "\"}") c.from_residual-in_err-append_hex.ensures.0 c.in_err-append_hex.ensures))

pub returns : goal.returns
returns g c = counts_as _ (object_of_digits (g.T.Utf16Bytes.bytes c.args.text.now)) (andthen c.in_ok-append.ensures (andthen c.in_ok-append_hex.ensures c.append-2.ensures))
