use Rattle.std.proofs.Common.{arith}
use Rattle.std.proofs.lemmas.List.{length-map}
use Rattle.msg_tree.specs.declared.stores.Store.{out-Store}
use Rattle.msg_tree.proofs.Stored.{list_out}
use Rattle.msg_tree.proofs.stores.Store.len.Goals as goal

pub returns : goal.returns
returns g c =
    let v = (out-Store g.row.B.Denot c.args.self.now).entries in
    rw (list_out g.B.Blob.bytes c.args.self.now, length-map) (omega (arith, c.len.ensures, v.ok.0))
