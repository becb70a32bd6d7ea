use Rattle.std.proofs.Common.{ap, sym, Ok}
use Rattle.tree_edit.specs.ChunkedLists.{listed}
use Rattle.tree_edit.specs.Opened.{props_of, recipients_of}
use Rattle.tree_edit.proofs.Kept.{recipients_kept}
use Rattle.tree_edit.proofs.Rows.{dropped_row}
use Rattle.tree_edit.proofs.open_recipients.OpenRecipients.edit.Goals as goal
use Rattle.tree_edit.proofs.open_recipients.OpenRecipients.edit.Goals.{in-AddRecipient+in_ok-add-in-AddRecipient, in-DropRecipient+in_ok-rows-in-DropRecipient+in_ok-remove_row-in-DropRecipient+in-Kept-1, in-DropRecipient+in_ok-rows-in-DropRecipient+in_ok-remove_row-in-DropRecipient+in-Open-1, in_default}

pub returns-clause-ok : goal.returns-clause-ok
returns-clause-ok g c = elim c.match-edit.branch [
  | in-AddRecipient+in_ok-add-in-AddRecipient w ↦ rw (w.in-AddRecipient.is, w.self-is) (ap Ok (sym w.in_ok-add-in-AddRecipient.ensures))
  | in-DropRecipient+in_ok-rows-in-DropRecipient+in_ok-remove_row-in-DropRecipient+in-Kept-1 w ↦ rw (w.in-DropRecipient.is, w.self-is) (dropped_row props_of w.in-DropRecipient.number (listed w.in_ok-rows-in-DropRecipient.rows) _ w.in_ok-rows-in-DropRecipient.ensures (listed w.remove_row.new.rows) w.in_ok-remove_row-in-DropRecipient.ensures.ok)
  | in-DropRecipient+in_ok-rows-in-DropRecipient+in_ok-remove_row-in-DropRecipient+in-Open-1 w ↦ rw (w.in-DropRecipient.is, w.self-is) (dropped_row props_of w.in-DropRecipient.number (listed w.in_ok-rows-in-DropRecipient.rows) _ w.in_ok-rows-in-DropRecipient.ensures (listed w.remove_row.new.rows) w.in_ok-remove_row-in-DropRecipient.ensures.ok)
  | in_default w ↦ rw w.self-is (recipients_kept c.args.edit (recipients_of c.args.self.now) w.in_default.not-AddRecipient w.in_default.not-DropRecipient)
]
