use Rattle.std.proofs.Common.{◌≡◌, ◌≤◌, ◌*◌, take}
use Rattle.std.specs.Prelude.{None}
use Rattle.json_writer.proofs.Decoding.{Stands}
use Rattle.json_writer.proofs.buffers.put_each.Given as goal

abbrev pub invariant-loop-k : goal.invariant-loop-k
invariant-loop-k l = record {
  whole : l.decoder.low ≡ None;
  room : l.used ≤ 6 * l.k;
  stands : Stands l.initial.decoder l.decoder (take (2 * l.k) l.bytes) (take l.used l.buffer);
}
