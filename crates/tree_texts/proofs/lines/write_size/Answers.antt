use Rattle.std.proofs.Common.{[], ◌∷◌, ◌++◌, append_assoc, sym}
use Rattle.std.specs.Prelude.{codes}
use Rattle.carrier_io.proofs.Known.{andthen, failing}
use Rattle.text_model.specs.TreeTexts.{counted}
use Rattle.tree_texts.proofs.Partly.{writes_as}
use Rattle.tree_texts.proofs.lines.write_size.Goals as goal

pub returns-in_err-write_counted : goal.returns-in_err-write_counted
returns-in_err-write_counted g c =
    let len = counted c.args.word.now c.args.len in
    let sum = counted (codes " bytes sum") c.args.sum in
    writes_as _ (sym (append_assoc len sum (0x0A ∷ []))) (failing (sum ++ 0x0A ∷ []) c.from_residual.ensures.0 c.in_err-write_counted.ensures)

pub returns-in_err-write_counted-2 : goal.returns-in_err-write_counted-2
returns-in_err-write_counted-2 g c =
    let len = counted c.args.word.now c.args.len in
    let sum = counted (codes " bytes sum") c.args.sum in
    writes_as _ (sym (append_assoc len sum (0x0A ∷ []))) (andthen c.in_ok-write_counted.ensures (failing (0x0A ∷ []) c.from_residual-in_err-write_counted-2.ensures.0 (rw c.from.ensures at c.in_err-write_counted-2.ensures)))

pub returns : goal.returns
returns g c =
    let len = counted c.args.word.now c.args.len in
    let sum = counted (codes " bytes sum") c.args.sum in
    writes_as _ (sym (append_assoc len sum (0x0A ∷ []))) (andthen c.in_ok-write_counted.ensures (andthen (rw c.from.ensures at c.in_ok-write_counted-2.ensures) c.write_pieces.ensures))
