use Rattle.std.proofs.Common.{◌≡◌, ◌*◌, ◌%◌, length, take}
use Rattle.std.specs.Prelude.{IsTrue}
use Rattle.json_writer.specs.Plain.{AreLone}
use Rattle.json_writer.proofs.plain.are_lone.Given as goal

abbrev pub invariant-loop-k : goal.invariant-loop-k
invariant-loop-k l = IsTrue l.lone → (length l.bytes % 2 ≡ 0) × AreLone (take (2 * l.k) l.bytes)
