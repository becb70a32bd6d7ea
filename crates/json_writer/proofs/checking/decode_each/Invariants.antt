use Rattle.std.proofs.Common.{◌≡◌, ◌*◌, take}
use Rattle.std.specs.Prelude.{None}
use Rattle.json_writer.proofs.Decoding.{Fits}
use Rattle.json_writer.proofs.checking.decode_each.Given as goal

abbrev pub invariant-loop-k : goal.invariant-loop-k
invariant-loop-k l = (l.decoder.low ≡ None) × Fits l.initial.decoder l.decoder (take (2 * l.k) l.bytes)
