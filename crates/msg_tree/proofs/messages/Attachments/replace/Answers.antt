use Rattle.std.proofs.Common.{◌∙◌, ap, sym, get_or}
use Rattle.std.specs.Prelude.{map, slice_set}
use Rattle.std.proofs.lemmas.List.{map-set}
use Rattle.carrier_model.proofs.Place.{view_read}
use Rattle.msg_tree.specs.Meaning.{attached_of}
use Rattle.msg_tree.specs.declared.messages.Attachments.{out-Attachments}
use Rattle.msg_tree.proofs.Put.{list_made}
use Rattle.msg_tree.proofs.Unrolled.{list_out}
use Rattle.msg_tree.proofs.messages.Attachments.replace.Goals as goal

pub returns-clause-taken : goal.returns-clause-taken
returns-clause-taken g c =
    let e = list_out g.B.Blob.bytes c.args.self.now in
    let same = c.replace.ensures.value in
    let items = (out-Attachments g.row.B.Denot c.args.self.now).list.items in
    rw e (view_read (attached_of g.B.Blob.bytes) items c.args.k c.replace.result (same ∙ (c.index_mut.ensures.value ∙ ap (λ x. get_or items c.args.k x) (sym same))) (rw e at c.requires))

pub returns-clause-put : goal.returns-clause-put
returns-clause-put g c =
    list_made g.B.Blob.bytes _ ∙ (ap (λ x. map (attached_of g.B.Blob.bytes) (slice_set (out-Attachments g.row.B.Denot c.args.self.now).list.items c.args.k x)) c.replace.ensures.after ∙ (map-set (attached_of g.B.Blob.bytes) _ c.args.k c.args.item ∙ ap (λ l. slice_set l c.args.k (attached_of g.B.Blob.bytes c.args.item)) (sym (list_out g.B.Blob.bytes c.args.self.now))))
