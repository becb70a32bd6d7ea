use Rattle.carrier_model.proofs.Place.{view_read}
use Rattle.msg_tree.specs.Meaning.{attached_of}
use Rattle.msg_tree.proofs.Unrolled.{list_out}
use Rattle.msg_tree.proofs.messages.Attachments.get.Goals as goal

pub returns : goal.returns
returns g c = let e = list_out g.B.Blob.bytes c.args.self.now in rw e (view_read (attached_of g.B.Blob.bytes) _ _ _ c.index.ensures (rw e at c.requires))
