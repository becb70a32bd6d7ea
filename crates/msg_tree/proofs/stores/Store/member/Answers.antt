use Rattle.std.proofs.Common.{arith}
use Rattle.std.proofs.lemmas.List.{length-map}
use Rattle.carrier_model.proofs.Place.{view_read}
use Rattle.msg_tree.specs.StoreMeaning.{entry_of}
use Rattle.msg_tree.specs.declared.stores.Store.{out-Store}
use Rattle.msg_tree.proofs.Stored.{list_out, entry_member}
use Rattle.msg_tree.proofs.stores.Store.member.Goals as goal

pub index-requires : goal.index-requires
index-requires g c =
    let v = (out-Store g.row.B.Denot c.args.self.now).entries in
    let h = rw (list_out g.B.Blob.bytes c.args.self.now, length-map) at c.requires in
    omega (arith, h, v.ok.0)

pub returns : goal.returns
returns g c =
    let v = (out-Store g.row.B.Denot c.args.self.now).entries in
    let e = list_out g.B.Blob.bytes c.args.self.now in
    let h = view_read (entry_of g.B.Blob.bytes) v.items c.args.k c.index.result.now c.index.ensures (rw e at c.requires) in
    rw (e, h) (entry_member g.B.Blob.bytes c.index.result.now)
