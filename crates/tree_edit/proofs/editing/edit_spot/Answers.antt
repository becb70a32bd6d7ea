use Rattle.edit_model.specs.Edits.{changed_at, with_props, with_attachments}
use Rattle.edit_words.specs.Meaning.{edit_of}
use Rattle.tree_edit.specs.Changes.{on_props}
use Rattle.tree_edit.specs.Opened.{open_list_of, open_tree_of}
use Rattle.tree_edit.specs.declared.open_messages.OpenMessage.{out-OpenMessage}
use Rattle.tree_edit.proofs.Made.{attachments_done, attachments_fail}
use Rattle.tree_edit.proofs.Steps.{ok_above, err_above}
use Rattle.tree_edit.proofs.editing.edit_spot.Goals as goal

pub returns-in-Attachment-clause-ok : goal.returns-in-Attachment-clause-ok
returns-in-Attachment-clause-ok g c =
    let change = changed_at (with_props (on_props (edit_of c.args.edit))) c.in-Attachment.k in
    rw c.in-Attachment.is (ok_above c.edit_attachment.result _ _ (λ n is. attachments_done g.C.Blob.bytes change c.args.message.now c.edit_attachment.new.attachments is) c.edit_attachment.ensures.ok)

pub returns-in-Attachment-clause-err : goal.returns-in-Attachment-clause-err
returns-in-Attachment-clause-err g c =
    let change = changed_at (with_props (on_props (edit_of c.args.edit))) c.in-Attachment.k in
    rw c.in-Attachment.is (err_above c.edit_attachment.result (change (open_list_of g.C.Blob.bytes (out-OpenMessage _ c.args.message.now).attachments)) (with_attachments change (open_tree_of g.C.Blob.bytes c.args.message.now)) (λ why h. attachments_fail g.C.Blob.bytes change c.args.message.now why h) c.edit_attachment.ensures.err)
