use Rattle.std.proofs.Common.{◌≡◌}
use Rattle.std.specs.Prelude.{map}
use Rattle.msg_tree.specs.Meaning.{attached_of}
use Rattle.msg_tree.proofs.tree_held.+held.Given as goal

abbrev pub invariant-held_attachments-loop-attachment : goal.invariant-held_attachments-loop-attachment
invariant-held_attachments-loop-attachment g l = map (attached_of g.C.Blob.bytes) l.list.items ≡ map (attached_of g.B.Blob.bytes) l.yielded
