use Rattle.msg_tree.specs.StoreMeaning.{store_of}
use Rattle.json_writer.proofs.Counted.{andthen, failing, counts_as}
use Rattle.tree_json.proofs.Objects.{store_text}
use Rattle.tree_json.proofs.write_stores.write_store.Goals as goal

pub returns-in_err-append-clause-json : goal.returns-in_err-append-clause-json
returns-in_err-append-clause-json g c = counts_as _ (store_text (store_of g.B.Blob.bytes c.args.store.now)) (failing _ c.from_residual.ensures.0 c.in_err-append.ensures)

pub returns-in_err-write_guid-clause-json : goal.returns-in_err-write_guid-clause-json
returns-in_err-write_guid-clause-json g c = counts_as _ (store_text (store_of g.B.Blob.bytes c.args.store.now)) (andthen c.in_ok-append.ensures (failing _ c.from_residual-in_err-write_guid.ensures.0 (rw c.class.ensures at c.in_err-write_guid.ensures.json)))

pub returns-in_err-append-2-clause-json : goal.returns-in_err-append-2-clause-json
returns-in_err-append-2-clause-json g c = counts_as _ (store_text (store_of g.B.Blob.bytes c.args.store.now)) (andthen c.in_ok-append.ensures (andthen (rw c.class.ensures at c.in_ok-write_guid.ensures.json) (failing _ c.from_residual-in_err-append-2.ensures.0 c.in_err-append-2.ensures)))

pub returns-in_err-write_members-clause-json : goal.returns-in_err-write_members-clause-json
returns-in_err-write_members-clause-json g c = counts_as _ (store_text (store_of g.B.Blob.bytes c.args.store.now)) (andthen c.in_ok-append.ensures (andthen (rw c.class.ensures at c.in_ok-write_guid.ensures.json) (andthen c.in_ok-append-2.ensures (failing _ c.from_residual-in_err-write_members.ensures.0 c.in_err-write_members.ensures.json))))

pub returns-clause-json : goal.returns-clause-json
returns-clause-json g c = counts_as _ (store_text (store_of g.B.Blob.bytes c.args.store.now)) (andthen c.in_ok-append.ensures (andthen (rw c.class.ensures at c.in_ok-write_guid.ensures.json) (andthen c.in_ok-append-2.ensures (andthen c.in_ok-write_members.ensures.json c.append-3.ensures))))
