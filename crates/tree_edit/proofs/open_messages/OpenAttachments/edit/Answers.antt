use Rattle.std.proofs.Common.{◌∙◌, ap, sym, Ok}
use Rattle.tree_edit.specs.ChunkedLists.{listed}
use Rattle.tree_edit.specs.Opened.{open_attached_of, open_list_of}
use Rattle.tree_edit.proofs.Kept.{attachments_kept}
use Rattle.tree_edit.proofs.Made.{list_made}
use Rattle.tree_edit.proofs.Rows.{dropped_row}
use Rattle.tree_edit.proofs.open_messages.OpenAttachments.edit.Goals as goal
use Rattle.tree_edit.proofs.open_messages.OpenAttachments.edit.Goals.{in-DropAttachment+in_ok-rows+in_ok-remove_row+in-Kept-1, in-DropAttachment+in_ok-rows+in_ok-remove_row+in-Open-1, in_default}

pub returns-clause-ok : goal.returns-clause-ok
returns-clause-ok g c = elim c.match-edit.branch [
  | in-DropAttachment+in_ok-rows+in_ok-remove_row+in-Kept-1 w ↦ rw (w.in-DropAttachment.is, w.self-is) (dropped_row (open_attached_of g.B.Blob.bytes) w.in-DropAttachment.number (listed w.in_ok-rows.rows) _ w.in_ok-rows.ensures (listed w.remove_row.new.rows) w.in_ok-remove_row.ensures.ok ∙ ap Ok (sym (list_made g.B.Blob.bytes w.remove_row.new.rows)))
  | in-DropAttachment+in_ok-rows+in_ok-remove_row+in-Open-1 w ↦ rw (w.in-DropAttachment.is, w.self-is) (dropped_row (open_attached_of g.B.Blob.bytes) w.in-DropAttachment.number (listed w.in_ok-rows.rows) _ w.in_ok-rows.ensures (listed w.remove_row.new.rows) w.in_ok-remove_row.ensures.ok ∙ ap Ok (sym (list_made g.B.Blob.bytes w.remove_row.new.rows)))
  | in_default w ↦ rw w.self-is (attachments_kept c.args.edit (open_list_of g.B.Blob.bytes c.args.self.now) w.in_default.not-DropAttachment)
]
