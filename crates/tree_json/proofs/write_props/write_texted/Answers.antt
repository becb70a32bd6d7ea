use Rattle.tree_json.proofs.Objects.{texted_text}
use Rattle.json_writer.proofs.Counted.{andthen, failing, counts_as}
use Rattle.tree_json.proofs.write_props.write_texted.Goals as goal

pub returns-in_err-append-clause-json : goal.returns-in_err-append-clause-json
returns-in_err-append-clause-json g c =
    counts_as _ (texted_text c.args.set.now.0 c.args.text.now) (failing _ c.from_residual.ensures.0 c.in_err-append.ensures)

pub returns-in_err-write_guid-clause-json : goal.returns-in_err-write_guid-clause-json
returns-in_err-write_guid-clause-json g c =
    counts_as _ (texted_text c.args.set.now.0 c.args.text.now) (andthen c.in_ok-append.ensures (failing _ c.from_residual-in_err-write_guid.ensures.0 c.in_err-write_guid.ensures.json))

pub returns-in_err-append-2-clause-json : goal.returns-in_err-append-2-clause-json
returns-in_err-append-2-clause-json g c =
    counts_as _ (texted_text c.args.set.now.0 c.args.text.now) (andthen c.in_ok-append.ensures (andthen c.in_ok-write_guid.ensures.json (failing _ c.from_residual-in_err-append-2.ensures.0 c.in_err-append-2.ensures)))

pub returns-in_err-write_name-clause-json : goal.returns-in_err-write_name-clause-json
returns-in_err-write_name-clause-json g c =
    counts_as _ (texted_text c.args.set.now.0 c.args.text.now) (andthen c.in_ok-append.ensures (andthen c.in_ok-write_guid.ensures.json (andthen c.in_ok-append-2.ensures (failing _ c.from_residual-in_err-write_name.ensures.0 c.in_err-write_name.ensures.json))))

pub returns-clause-json : goal.returns-clause-json
returns-clause-json g c =
    counts_as _ (texted_text c.args.set.now.0 c.args.text.now) (andthen c.in_ok-append.ensures (andthen c.in_ok-write_guid.ensures.json (andthen c.in_ok-append-2.ensures (andthen c.in_ok-write_name.ensures.json c.append-3.ensures))))
