use Rattle.std.proofs.Common.{◌∙◌, ap, sym}
use Rattle.std.specs.Prelude.{map}
use Rattle.std.specs.List.{remove}
use Rattle.carrier_model.proofs.Place.{view_read}
use Rattle.msg_tree.specs.Meaning.{attached_of}
use Rattle.msg_tree.proofs.Put.{map-remove, list_made}
use Rattle.msg_tree.proofs.Unrolled.{list_out}
use Rattle.msg_tree.proofs.messages.Attachments.remove.Goals as goal

pub returns-clause-taken : goal.returns-clause-taken
returns-clause-taken g c = let e = list_out g.B.Blob.bytes c.args.self.now in rw e (view_read (attached_of g.B.Blob.bytes) _ _ _ c.remove.ensures.value (rw e at c.requires))

pub returns-clause-left : goal.returns-clause-left
returns-clause-left g c =
    list_made g.B.Blob.bytes _ ∙ (ap (map (attached_of g.B.Blob.bytes)) c.remove.ensures.items ∙ (map-remove (attached_of g.B.Blob.bytes) _ c.args.k ∙ ap (λ l. remove l c.args.k) (sym (list_out g.B.Blob.bytes c.args.self.now))))
