use Rattle.std.proofs.Common.{◌∙◌, ap, sym}
use Rattle.tree_edit.specs.Opened.{open_list_of}
use Rattle.tree_edit.proofs.Made.{list_made}
use Rattle.tree_edit.proofs.open_messages.OpenAttachments.take_rows.Goals as goal

pub returns-in-Open : goal.returns-in-Open
returns-in-Open g c = sym (ap (open_list_of g.B.Blob.bytes) (sym c.replace.ensures.value ∙ c.in-Open.is) ∙ list_made g.B.Blob.bytes c.in-Open.rows)
