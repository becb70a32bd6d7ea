use Rattle.std.proofs.Common.{[], ◌∷◌, ◌++◌}
use Rattle.json_model.specs.Digits.{hex}
use Rattle.json_writer.proofs.Counted.{andthen, failing, counts_as}
use Rattle.json_writer.proofs.HexStrings.{digits_string}
use Rattle.json_writer.proofs.digits.append_digits.Goals as goal

pub returns-in_err-append : goal.returns-in_err-append
returns-in_err-append g c =
    let bytes = g.B.Blob.bytes c.args.blob.now in
    counts_as _ (digits_string bytes) (failing (hex bytes ++ 34 ∷ []) c.from_residual.ensures.0 c.in_err-append.ensures)

pub returns-in_err-append_all_pairs : goal.returns-in_err-append_all_pairs
returns-in_err-append_all_pairs g c =
    counts_as _ (digits_string (g.B.Blob.bytes c.args.blob.now)) (andthen c.in_ok-append.ensures (failing (34 ∷ []) c.from_residual-in_err-append_all_pairs.ensures.0 c.in_err-append_all_pairs.ensures))

pub returns : goal.returns
returns g c = counts_as _ (digits_string (g.B.Blob.bytes c.args.blob.now)) (andthen c.in_ok-append.ensures (andthen c.in_ok-append_all_pairs.ensures c.append-2.ensures))
