use Rattle.std.proofs.Common.{◌≤◌, ◌*◌, take}
use Rattle.json_writer.proofs.Decoding.{Stands}
use Rattle.json_writer.proofs.buffers.put_bytes.Given as goal

abbrev pub invariant-loop-byte : goal.invariant-loop-byte
invariant-loop-byte l = (l.used ≤ 6 * l.byte-index) × Stands l.initial.decoder l.decoder (take l.byte-index l.bytes) (take l.used l.buffer)
