use Rattle.std.proofs.Common.{◌++◌, [], ◌∷◌, sym}
use Rattle.carrier_io.proofs.Known.{andthen, failing}
use Rattle.json_model.specs.Faults.{path_text}
use Rattle.outlook_status.proofs.Snags.{no_tree_is}
use Rattle.tree_from_json.specs.Ends.{plain_fault}
use Rattle.outlook_status.proofs.report.write_no_tree.Goals as goal

pub returns-in_err-write_pieces : goal.returns-in_err-write_pieces
returns-in_err-write_pieces g c =
    let f = plain_fault c.args.fault.now in
    rw (sym (no_tree_is f)) (failing (path_text f.path ++ 10 ∷ []) c.from_residual.ensures.0 (rw c.why_no_tree.ensures at c.in_err-write_pieces.ensures))

pub returns-in_err-write_path : goal.returns-in_err-write_path
returns-in_err-write_path g c =
    let f = plain_fault c.args.fault.now in
    rw (sym (no_tree_is f)) (andthen (rw c.why_no_tree.ensures at c.in_ok-write_pieces.ensures) (failing (10 ∷ []) c.from_residual-in_err-write_path.ensures.0 c.in_err-write_path.ensures))

pub returns : goal.returns
returns g c =
    let f = plain_fault c.args.fault.now in
    rw (sym (no_tree_is f)) (andthen (rw c.why_no_tree.ensures at c.in_ok-write_pieces.ensures) (andthen c.in_ok-write_path.ensures c.write_pieces-2.ensures))
