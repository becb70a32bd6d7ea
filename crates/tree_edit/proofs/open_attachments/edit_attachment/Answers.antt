use Rattle.std.proofs.Common.{◌∙◌, ap, sym, length, Ok, arith}
use Rattle.std.proofs.lemmas.List.{length-set}
use Rattle.std.proofs.lemmas.Option.{slice_get_within}
use Rattle.std.proofs.lemmas.Result.{err_from_is_err_and}
use Rattle.edit_model.specs.Edits.{changed_at, with_props}
use Rattle.edit_words.specs.Meaning.{edit_of}
use Rattle.tree_edit.specs.Changes.{on_props}
use Rattle.tree_edit.specs.ChunkedLists.{listed}
use Rattle.tree_edit.specs.Opened.{open_attached_of, open_list_of, props_of}
use Rattle.tree_edit.proofs.Made.{list_made, props_done, props_fail}
use Rattle.tree_edit.proofs.Rows.{changed_row, failed_row, no_row}
use Rattle.tree_edit.proofs.Steps.{cause_above}
use Rattle.tree_edit.proofs.open_attachments.edit_attachment.Goals as goal

pub returns-in_err-attachment-clause-err : goal.returns-in_err-attachment-clause-err
returns-in_err-attachment-clause-err g c =
    let p = err_from_is_err_and c.from_residual-in_err-attachment.result c.from_residual-in_err-attachment.ensures.1 in
    rw (p.1, p.2, c.in_err-attachment.ensures.past.0) (no_row (open_attached_of g.C.Blob.bytes) c.args.number (listed c.in_ok-rows.rows) _ c.in_ok-rows.ensures (with_props (on_props (edit_of c.args.edit))) c.in_err-attachment.ensures.past.1)

pub returns-in_err-edit_props-clause-err : goal.returns-in_err-edit_props-clause-err
returns-in_err-edit_props-clause-err g c =
    let p = err_from_is_err_and c.from_residual-in_err-edit_props.result c.from_residual-in_err-edit_props.ensures.1 in
    let change = on_props (edit_of c.args.edit) in
    let taken = c.in_ok-attachment.attachment in
    rw (p.1, p.2) (cause_above (change (props_of taken.props)) (changed_at (with_props change) c.args.number (open_list_of g.C.Blob.bytes c.args.attachments.now)) c.in_err-edit_props.field-0.0
    (λ why h. failed_row (open_attached_of g.C.Blob.bytes) c.args.number (listed c.in_ok-rows.rows) _ c.in_ok-rows.ensures (with_props change) taken why c.in_ok-attachment.ensures.taken (props_fail g.C.Blob.bytes change taken why h)) c.in_err-edit_props.ensures.err)

pub put_row-requires : goal.put_row-requires
put_row-requires g c =
    let within = slice_get_within (listed c.in_ok-rows.rows) c.args.number c.in_ok-attachment.attachment c.in_ok-attachment.ensures.taken in
    omega (arith, within, ap length c.in_ok-attachment.ensures.left, length-set (listed c.in_ok-rows.rows) c.args.number c.new-blank.result)

pub returns-clause-ok : goal.returns-clause-ok
returns-clause-ok g c =
    let change = on_props (edit_of c.args.edit) in
    let taken = c.in_ok-attachment.attachment in
    changed_row (open_attached_of g.C.Blob.bytes) c.args.number (listed c.in_ok-rows.rows) _ c.in_ok-rows.ensures (with_props change) (listed c.take_row.new.rows) (listed c.put_row.new.rows) taken _ c.new-blank.result c.in_ok-attachment.ensures.taken c.in_ok-attachment.ensures.left c.put_row.ensures (props_done g.C.Blob.bytes change taken c.edit_props.new.props c.in_ok-edit_props.ensures.ok)
    ∙ ap Ok (sym (list_made g.C.Blob.bytes c.put_row.new.rows))
