use Rattle.tree_json.proofs.Objects.{numbered_text}
use Rattle.json_writer.proofs.Counted.{andthen, failing, counts_as}
use Rattle.tree_json.proofs.write_props.write_numbered.Goals as goal

pub returns-in_err-append-clause-json : goal.returns-in_err-append-clause-json
returns-in_err-append-clause-json g c =
    counts_as _ (numbered_text c.args.set.now.0 c.args.number) (failing _ c.from_residual.ensures.0 c.in_err-append.ensures)

pub returns-in_err-append_number-clause-json : goal.returns-in_err-append_number-clause-json
returns-in_err-append_number-clause-json g c =
    counts_as _ (numbered_text c.args.set.now.0 c.args.number) (andthen c.in_ok-append.ensures (failing _ c.from_residual-in_err-append_number.ensures.0 (rw c.from.ensures at c.in_err-append_number.ensures)))

pub returns-in_err-append-2-clause-json : goal.returns-in_err-append-2-clause-json
returns-in_err-append-2-clause-json g c =
    counts_as _ (numbered_text c.args.set.now.0 c.args.number) (andthen c.in_ok-append.ensures (andthen (rw c.from.ensures at c.in_ok-append_number.ensures) (failing _ c.from_residual-in_err-append-2.ensures.0 c.in_err-append-2.ensures)))

pub returns-in_err-write_guid-clause-json : goal.returns-in_err-write_guid-clause-json
returns-in_err-write_guid-clause-json g c =
    counts_as _ (numbered_text c.args.set.now.0 c.args.number) (andthen c.in_ok-append.ensures (andthen (rw c.from.ensures at c.in_ok-append_number.ensures) (andthen c.in_ok-append-2.ensures (failing _ c.from_residual-in_err-write_guid.ensures.0 c.in_err-write_guid.ensures.json))))

pub returns-clause-json : goal.returns-clause-json
returns-clause-json g c =
    counts_as _ (numbered_text c.args.set.now.0 c.args.number) (andthen c.in_ok-append.ensures (andthen (rw c.from.ensures at c.in_ok-append_number.ensures) (andthen c.in_ok-append-2.ensures (andthen c.in_ok-write_guid.ensures.json c.append-3.ensures))))
