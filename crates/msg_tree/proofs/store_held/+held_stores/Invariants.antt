use Rattle.std.proofs.Common.{◌≡◌}
use Rattle.std.specs.Prelude.{map}
use Rattle.msg_tree.specs.StoreMeaning.{entry_of}
use Rattle.msg_tree.proofs.store_held.+held_stores.Given as goal

abbrev pub invariant-held_entries-loop-entry : goal.invariant-held_entries-loop-entry
invariant-held_entries-loop-entry g l = map (entry_of g.C.Blob.bytes) l.all.items ≡ map (entry_of g.B.Blob.bytes) l.yielded
