use Rattle.std.proofs.Common.{sym}
use Rattle.edit_model.specs.Edits.{with_attachments}
use Rattle.edit_words.specs.Meaning.{edit_of}
use Rattle.tree_edit.specs.Changes.{on_attachments}
use Rattle.tree_edit.specs.Opened.{open_list_of, open_tree_of}
use Rattle.tree_edit.specs.declared.open_messages.OpenMessage.{out-OpenMessage}
use Rattle.tree_edit.proofs.Made.{attachments_done, attachments_fail}
use Rattle.tree_edit.proofs.Steps.{ok_above, err_above}
use Rattle.tree_edit.proofs.editing.edit_here.Goals as goal

pub returns-in-Attachments-clause-ok : goal.returns-in-Attachments-clause-ok
returns-in-Attachments-clause-ok g c =
    rw (sym c.in-Attachments.ensures) (ok_above c.edit-in-Attachments.result _ _ (λ n is. attachments_done g.C.Blob.bytes (on_attachments (edit_of c.args.edit)) c.args.message.now c.edit-in-Attachments.new.self is) c.edit-in-Attachments.ensures.ok)

pub returns-in-Attachments-clause-err : goal.returns-in-Attachments-clause-err
returns-in-Attachments-clause-err g c =
    let change = on_attachments (edit_of c.args.edit) in
    rw (sym c.in-Attachments.ensures) (err_above c.edit-in-Attachments.result (change (open_list_of g.C.Blob.bytes (out-OpenMessage _ c.args.message.now).attachments)) (with_attachments change (open_tree_of g.C.Blob.bytes c.args.message.now)) (λ why h. attachments_fail g.C.Blob.bytes change c.args.message.now why h) c.edit-in-Attachments.ensures.err)
