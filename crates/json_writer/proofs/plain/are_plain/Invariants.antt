use Rattle.std.proofs.Common.{◌≡◌, ◌*◌, ◌%◌, length, take}
use Rattle.std.specs.Prelude.{IsTrue}
use Rattle.json_writer.specs.Plain.{ArePlain}
use Rattle.json_writer.proofs.plain.are_plain.Given as goal

abbrev pub invariant-loop-k : goal.invariant-loop-k
invariant-loop-k l = IsTrue l.plain → (length l.bytes % 2 ≡ 0) × ArePlain (take (2 * l.k) l.bytes)
