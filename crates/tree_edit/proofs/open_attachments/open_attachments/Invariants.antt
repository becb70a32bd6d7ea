use Rattle.std.proofs.Common.{◌≡◌, length, map, take, drop}
use Rattle.msg_tree.specs.Meaning.{list_of}
use Rattle.tree_edit.specs.ChunkedLists.{listed}
use Rattle.tree_edit.specs.Opened.{open_attached_of}
use Rattle.tree_edit.proofs.open_attachments.open_attachments.Given as goal

abbrev pub invariant-loop-k : goal.invariant-loop-k
invariant-loop-k g l = record {
  taken : map (open_attached_of g.B.Blob.bytes) (listed l.rows) ≡ take l.k (list_of g.B.Blob.bytes l.fn.attachments);
  left : drop l.k (list_of g.B.Blob.bytes l.attachments) ≡ drop l.k (list_of g.B.Blob.bytes l.fn.attachments);
  count : length (list_of g.B.Blob.bytes l.attachments) ≡ length (list_of g.B.Blob.bytes l.fn.attachments);
}
