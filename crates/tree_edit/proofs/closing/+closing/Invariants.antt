use Rattle.std.proofs.Common.{◌≡◌, ◌++◌, ◌+◌, ◌*◌, map}
use Rattle.std.specs.List.{flat_map}
use Rattle.msg_tree.specs.Meaning.{list_of}
use Rattle.tree_edit.specs.Opened.{open_attached_of}
use Rattle.tree_edit.proofs.closing.+closing.Given as goal

abbrev pub decreases-close_message : goal.decreases-close_message
decreases-close_message g l = 3 * goal.size-close_message g l

abbrev pub decreases-close_attachments : goal.decreases-close_attachments
decreases-close_attachments g l = 3 * goal.size-close_attachments g l

abbrev pub decreases-close_rows : goal.decreases-close_rows
decreases-close_rows g l = 3 * goal.size-close_rows g l + 2

abbrev pub decreases-close_chunk : goal.decreases-close_chunk
decreases-close_chunk g l = 3 * goal.size-close_chunk g l + 1

abbrev pub decreases-close_attachment : goal.decreases-close_attachment
decreases-close_attachment g l = 3 * goal.size-close_attachment g l

abbrev pub decreases-close_body : goal.decreases-close_body
decreases-close_body g l = 3 * goal.size-close_body g l

abbrev pub invariant-close_rows-loop-chunk : goal.invariant-close_rows-loop-chunk
invariant-close_rows-loop-chunk g l = list_of g.B.Blob.bytes l.list ≡ map (open_attached_of g.B.Blob.bytes) (flat_map (λ chunk. chunk.items) l.yielded)

abbrev pub invariant-close_chunk-loop-attachment : goal.invariant-close_chunk-loop-attachment
invariant-close_chunk-loop-attachment g l = list_of g.B.Blob.bytes l.list ≡ list_of g.B.Blob.bytes l.fn.list ++ map (open_attached_of g.B.Blob.bytes) l.yielded
