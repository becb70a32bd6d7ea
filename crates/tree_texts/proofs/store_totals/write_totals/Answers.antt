use Rattle.std.proofs.Common.{◌++◌}
use Rattle.std.specs.Prelude.{codes}
use Rattle.carrier_model.specs.FileTrees.{byte_count}
use Rattle.carrier_model.specs.Totals.{capped}
use Rattle.carrier_io.proofs.Known.{andthen, failing}
use Rattle.text_model.specs.TreeTexts.{counted}
use Rattle.msg_tree.specs.StoreMeaning.{store_of}
use Rattle.tree_texts.proofs.store_totals.write_totals.Goals as goal

pub returns-in_err-write_counted : goal.returns-in_err-write_counted
returns-in_err-write_counted g c =
    let bytes = counted (codes " streams") (capped (byte_count (store_of g.B.Blob.bytes c.args.store.now).members)) in
    failing (bytes ++ codes " bytes") c.from_residual.ensures.0 (rw c.totals_of-totals.ensures.streams at c.in_err-write_counted.ensures)

pub returns-in_err-write_counted-2 : goal.returns-in_err-write_counted-2
returns-in_err-write_counted-2 g c =
    andthen (rw c.totals_of-totals.ensures.streams at c.in_ok-write_counted.ensures) (failing (codes " bytes") c.from_residual-in_err-write_counted-2.ensures.0 (rw c.totals_of-totals.ensures.bytes at c.in_err-write_counted-2.ensures))

pub returns : goal.returns
returns g c =
    andthen (rw c.totals_of-totals.ensures.streams at c.in_ok-write_counted.ensures) (andthen (rw c.totals_of-totals.ensures.bytes at c.in_ok-write_counted-2.ensures) c.write_pieces.ensures)
