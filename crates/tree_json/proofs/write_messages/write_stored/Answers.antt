use Rattle.std.proofs.Common.{◌≡◌, ◌∙◌, ap, sym}
use Rattle.carrier_model.specs.Tree.{stored}
use Rattle.json_writer.proofs.Counted.{andthen, failing, counts_as}
use Rattle.msg_tree.specs.Meaning.{body_of}
use Rattle.msg_tree.specs.StoreMeaning.{store_of}
use Rattle.tree_json.specs.Bodies.{behind_properties}
use Rattle.tree_json.proofs.Bodies.{store_made}
use Rattle.tree_json.proofs.write_messages.write_stored.Goals as goal

pub returns-in_err-append-in-Store-clause-json : goal.returns-in_err-append-in-Store-clause-json
returns-in_err-append-in-Store-clause-json g c =
    let known : body_of g.B.Blob.bytes c.args.body.now ≡ stored (store_of g.B.Blob.bytes c.in-Store.store) = ap (body_of g.B.Blob.bytes) c.in-Store.is ∙ store_made g.B.Blob.bytes c.in-Store.store in
    counts_as _ (ap behind_properties (sym known)) (failing _ c.from_residual.ensures.0 c.in_err-append-in-Store.ensures)

pub returns-in_ok-append-in-Store-clause-json : goal.returns-in_ok-append-in-Store-clause-json
returns-in_ok-append-in-Store-clause-json g c =
    let known : body_of g.B.Blob.bytes c.args.body.now ≡ stored (store_of g.B.Blob.bytes c.in-Store.store) = ap (body_of g.B.Blob.bytes) c.in-Store.is ∙ store_made g.B.Blob.bytes c.in-Store.store in
    counts_as _ (ap behind_properties (sym known)) (andthen c.in_ok-append-in-Store.ensures c.write_store.ensures.json)
