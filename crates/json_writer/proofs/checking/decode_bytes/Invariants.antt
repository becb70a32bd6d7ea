use Rattle.std.proofs.Common.{take}
use Rattle.json_writer.proofs.Decoding.{Fits}
use Rattle.json_writer.proofs.checking.decode_bytes.Given as goal

abbrev pub invariant-loop-byte : goal.invariant-loop-byte
invariant-loop-byte l = Fits l.initial.decoder l.decoder (take l.byte-index l.bytes)
