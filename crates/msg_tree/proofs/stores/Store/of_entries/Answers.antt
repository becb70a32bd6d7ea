use Rattle.msg_tree.proofs.Stored.{store_made}
use Rattle.msg_tree.proofs.stores.Store.of_entries.Goals as goal

pub returns : goal.returns
returns g c = store_made g.B.Blob.bytes (record { class = c.args.class; entries = c.args.entries })
