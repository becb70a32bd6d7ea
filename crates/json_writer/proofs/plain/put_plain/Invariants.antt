use Rattle.std.proofs.Common.{◌≡◌, ◌*◌, take}
use Rattle.json_writer.specs.Plain.{lows}
use Rattle.json_writer.proofs.plain.put_plain.Given as goal

abbrev pub invariant-loop-k : goal.invariant-loop-k
invariant-loop-k l = take l.k l.buffer ≡ lows (take (2 * l.k) l.bytes)
