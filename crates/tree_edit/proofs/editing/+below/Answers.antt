use Rattle.std.proofs.Common.{◌∙◌, ap, sym, ◌+◌, drop, length, Ok, arith}
use Rattle.std.specs.Box.{with_value}
use Rattle.std.proofs.lemmas.List.{length-set}
use Rattle.std.proofs.lemmas.Option.{slice_get_within}
use Rattle.std.proofs.lemmas.Result.{err_from_is_err_and}
use Rattle.carrier_model.proofs.Trees.{drop_at}
use Rattle.edit_model.specs.Edits.{at_path, body_with, changed_at, with_attachments, with_body}
use Rattle.edit_words.specs.Meaning.{edit_of}
use Rattle.edit_words.specs.Parts.{part_of, path_of}
use Rattle.tree_edit.specs.Changes.{on_part}
use Rattle.tree_edit.specs.ChunkedLists.{listed}
use Rattle.tree_edit.specs.Opened.{open_attached_of, open_body_of, open_list_of, open_tree_of}
use Rattle.tree_edit.specs.declared.open_messages.OpenMessage.{out-OpenMessage}
use Rattle.tree_edit.proofs.Made.{attachments_done, attachments_fail, body_done, body_fail, list_made, message_done}
use Rattle.tree_edit.proofs.Rows.{changed_row, failed_row, no_row}
use Rattle.tree_edit.proofs.Steps.{cause_above, ok_above, err_above}
use Rattle.tree_edit.proofs.editing.+below.Goals as goal

pub edit_below-returns-clause-ok : goal.edit_below-returns-clause-ok
edit_below-returns-clause-ok g t c =
    let step = drop_at (path_of (edit_of c.args.edit)) c.args.at c.get-number.result.now (rw c.path-path.ensures at c.get-number.ensures) in
    let change = changed_at (with_body (at_path (on_part (part_of (edit_of c.args.edit)) (edit_of c.args.edit)) (drop (c.args.at + 1) (path_of (edit_of c.args.edit))))) c.get-number.result.now in
    ok_above c.edit_in_attachment.result _ _ (λ n is. rw step (attachments_done g.C.Blob.bytes change c.args.message.now c.edit_in_attachment.new.attachments is)) c.edit_in_attachment.ensures.ok

pub edit_below-returns-clause-err : goal.edit_below-returns-clause-err
edit_below-returns-clause-err g t c =
    let step = drop_at (path_of (edit_of c.args.edit)) c.args.at c.get-number.result.now (rw c.path-path.ensures at c.get-number.ensures) in
    let change = changed_at (with_body (at_path (on_part (part_of (edit_of c.args.edit)) (edit_of c.args.edit)) (drop (c.args.at + 1) (path_of (edit_of c.args.edit))))) c.get-number.result.now in
    rw step (err_above c.edit_in_attachment.result (change (open_list_of g.C.Blob.bytes (out-OpenMessage _ c.args.message.now).attachments)) (with_attachments change (open_tree_of g.C.Blob.bytes c.args.message.now)) (λ why h. attachments_fail g.C.Blob.bytes change c.args.message.now why h) c.edit_in_attachment.ensures.err)

pub edit_in_attachment-returns-in_err-attachment-clause-err : goal.edit_in_attachment-returns-in_err-attachment-clause-err
edit_in_attachment-returns-in_err-attachment-clause-err g t c =
    let p = err_from_is_err_and c.from_residual-in_err-attachment.result c.from_residual-in_err-attachment.ensures.1 in
    let change = at_path (on_part (part_of (edit_of c.args.edit)) (edit_of c.args.edit)) (drop c.args.at (path_of (edit_of c.args.edit))) in
    rw (p.1, p.2, c.in_err-attachment.ensures.past.0) (no_row (open_attached_of g.C.Blob.bytes) c.args.number (listed c.in_ok-rows.rows) _ c.in_ok-rows.ensures (with_body change) c.in_err-attachment.ensures.past.1)

pub edit_in_attachment-returns-in_err-edit_in_body-clause-err : goal.edit_in_attachment-returns-in_err-edit_in_body-clause-err
edit_in_attachment-returns-in_err-edit_in_body-clause-err g t c =
    let p = err_from_is_err_and c.from_residual-in_err-edit_in_body.result c.from_residual-in_err-edit_in_body.ensures.1 in
    let change = at_path (on_part (part_of (edit_of c.args.edit)) (edit_of c.args.edit)) (drop c.args.at (path_of (edit_of c.args.edit))) in
    let taken = c.in_ok-attachment.attachment in
    rw (p.1, p.2) (cause_above (body_with change (open_body_of g.C.Blob.bytes taken.body)) (changed_at (with_body change) c.args.number (open_list_of g.C.Blob.bytes c.args.attachments.now)) c.in_err-edit_in_body.field-0.0
    (λ why h. failed_row (open_attached_of g.C.Blob.bytes) c.args.number (listed c.in_ok-rows.rows) _ c.in_ok-rows.ensures (with_body change) taken why c.in_ok-attachment.ensures.taken (body_fail g.C.Blob.bytes change taken why h)) c.in_err-edit_in_body.ensures.err)

pub edit_in_attachment-put_row-requires : goal.edit_in_attachment-put_row-requires
edit_in_attachment-put_row-requires g t c =
    let within = slice_get_within (listed c.in_ok-rows.rows) c.args.number c.in_ok-attachment.attachment c.in_ok-attachment.ensures.taken in
    omega (arith, within, ap length c.in_ok-attachment.ensures.left, length-set (listed c.in_ok-rows.rows) c.args.number c.new-blank.result)

pub edit_in_attachment-returns-clause-ok : goal.edit_in_attachment-returns-clause-ok
edit_in_attachment-returns-clause-ok g t c =
    let change = at_path (on_part (part_of (edit_of c.args.edit)) (edit_of c.args.edit)) (drop c.args.at (path_of (edit_of c.args.edit))) in
    let taken = c.in_ok-attachment.attachment in
    changed_row (open_attached_of g.C.Blob.bytes) c.args.number (listed c.in_ok-rows.rows) _ c.in_ok-rows.ensures (with_body change) (listed c.take_row.new.rows) (listed c.put_row.new.rows) taken _ c.new-blank.result c.in_ok-attachment.ensures.taken c.in_ok-attachment.ensures.left c.put_row.ensures (body_done g.C.Blob.bytes change taken c.edit_in_body.new.body c.in_ok-edit_in_body.ensures.ok)
    ∙ ap Ok (sym (list_made g.C.Blob.bytes c.put_row.new.rows))

pub edit_in_body-returns-clause-ok : goal.edit_in_body-returns-clause-ok
edit_in_body-returns-clause-ok g t c =
    let change = at_path (on_part (part_of (edit_of c.args.edit)) (edit_of c.args.edit)) (drop c.args.at (path_of (edit_of c.args.edit))) in
    let there = rw c.in-Some.is at c.in_ok-inner.ensures.there in
    let made = rw c.deref_mut.ensures.value at c.in_ok-edit_below.ensures.ok in
    message_done g.C.Blob.bytes change (open_body_of g.C.Blob.bytes c.args.body.now) (open_tree_of g.C.Blob.bytes c.in-Some.inner.value) (with_value c.in-Some.inner c.edit_below.new.message) there made
