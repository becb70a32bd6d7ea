use Rattle.std.proofs.Common.{◌++◌, [], ◌∷◌, sym}
use Rattle.std.specs.Prelude.{codes}
use Rattle.carrier_io.proofs.Known.{andthen, failing}
use Rattle.edit_model.specs.EditTexts.{why_name}
use Rattle.outlook_status.proofs.Snags.{undone_is}
use Rattle.tree_edit.specs.Meaning.{fault_of}
use Rattle.outlook_status.proofs.report.write_undone.Goals as goal

pub returns-in_err-write_counted : goal.returns-in_err-write_counted
returns-in_err-write_counted g c =
    let f = fault_of c.args.fault in
    rw (sym (undone_is f)) (failing (codes " " ++ (why_name f.1 ++ 10 ∷ [])) c.from_residual.ensures.0 c.in_err-write_counted.ensures)

pub returns : goal.returns
returns g c = rw (sym (undone_is (fault_of c.args.fault))) (andthen c.in_ok-write_counted.ensures (rw c.why_undone.ensures at c.write_pieces.ensures))
