use Rattle.std.proofs.Common.{ap, length, arith}
use Rattle.std.proofs.lemmas.List.{length-set}
use Rattle.std.proofs.lemmas.Option.{slice_get_within}
use Rattle.std.proofs.lemmas.Result.{err_from_is_err_and}
use Rattle.edit_model.specs.Edits.{changed_at}
use Rattle.edit_words.specs.Meaning.{edit_of}
use Rattle.tree_edit.specs.Changes.{on_props}
use Rattle.tree_edit.specs.ChunkedLists.{listed}
use Rattle.tree_edit.specs.Opened.{props_of, recipients_of}
use Rattle.tree_edit.proofs.Rows.{changed_row, failed_row, no_row}
use Rattle.tree_edit.proofs.Steps.{cause_above}
use Rattle.tree_edit.proofs.open_recipients.edit_recipient.Goals as goal

pub returns-in_err-props-clause-err : goal.returns-in_err-props-clause-err
returns-in_err-props-clause-err g c =
    let p = err_from_is_err_and c.from_residual-in_err-props.result c.from_residual-in_err-props.ensures.1 in
    rw (p.1, p.2, c.in_err-props.ensures.past.0) (no_row props_of c.args.number (listed c.in_ok-rows.rows) _ c.in_ok-rows.ensures (on_props (edit_of c.args.edit)) c.in_err-props.ensures.past.1)

pub returns-in_err-edit_props-clause-err : goal.returns-in_err-edit_props-clause-err
returns-in_err-edit_props-clause-err g c =
    let p = err_from_is_err_and c.from_residual-in_err-edit_props.result c.from_residual-in_err-edit_props.ensures.1 in
    let change = on_props (edit_of c.args.edit) in
    let taken = c.in_ok-props.props in
    rw (p.1, p.2) (cause_above (change (props_of taken)) (changed_at change c.args.number (recipients_of c.args.recipients.now)) c.in_err-edit_props.field-0.0 (λ why h. failed_row props_of c.args.number (listed c.in_ok-rows.rows) _ c.in_ok-rows.ensures change taken why c.in_ok-props.ensures.taken h) c.in_err-edit_props.ensures.err)

pub put_row-requires : goal.put_row-requires
put_row-requires g c =
    let within = slice_get_within (listed c.in_ok-rows.rows) c.args.number c.in_ok-props.props c.in_ok-props.ensures.taken in
    omega (arith, within, ap length c.in_ok-props.ensures.left, length-set (listed c.in_ok-rows.rows) c.args.number c.new-blank.result)

pub returns-clause-ok : goal.returns-clause-ok
returns-clause-ok g c =
    changed_row props_of c.args.number (listed c.in_ok-rows.rows) _ c.in_ok-rows.ensures (on_props (edit_of c.args.edit)) (listed c.take_row.new.rows) (listed c.put_row.new.rows) c.in_ok-props.props c.edit_props.new.props c.new-blank.result c.in_ok-props.ensures.taken c.in_ok-props.ensures.left c.put_row.ensures c.in_ok-edit_props.ensures.ok
