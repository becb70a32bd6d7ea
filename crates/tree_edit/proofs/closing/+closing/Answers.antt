use Rattle.std.proofs.Common.{◌∙◌, ap, sym}
use Rattle.tree_edit.specs.Opened.{open_list_of}
use Rattle.tree_edit.proofs.Made.{list_made}
use Rattle.tree_edit.proofs.Steps.{ok_above}
use Rattle.tree_edit.proofs.closing.+closing.Goals as goal

pub close_attachments-returns-in-Open : goal.close_attachments-returns-in-Open
close_attachments-returns-in-Open g t c =
    ok_above c.close_rows.result _ _ (λ list is. is ∙ sym (ap (open_list_of g.B.Blob.bytes) c.in-Open.is ∙ list_made g.B.Blob.bytes c.in-Open.rows)) c.close_rows.ensures
