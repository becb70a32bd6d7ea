use Rattle.std.proofs.Common.{◌≡◌}
use Rattle.std.specs.Prelude.{map}
use Rattle.prop_values.proofs.part_list.Parts.into_held.Given as goal

abbrev pub invariant-loop-blob : goal.invariant-loop-blob
invariant-loop-blob g l = map g.C.Blob.bytes l.list.items ≡ map g.B.Blob.bytes l.yielded
