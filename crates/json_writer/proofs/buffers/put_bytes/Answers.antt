use Rattle.std.proofs.Common.{arith}
use Rattle.std.proofs.lemmas.List.{take_more}
use Rattle.json_writer.proofs.Decoding.{byte_put, stands_more}
use Rattle.json_writer.proofs.buffers.put_bytes.Goals as goal

pub loop-byte-preserved : goal.loop-byte-preserved
loop-byte-preserved c = (
  omega (arith, c.loop-byte.invariant.0, c.put_some-used.ensures.count),
  stands_more _ _ _ (take_more c.args.bytes.now c.loop-byte.byte-index _ c.loop-byte-test.true) c.loop-byte.invariant.1 (byte_put c.loop-byte.decoder c.take_byte.new.self _ _ _ _ c.put_some-used.ensures.text c.take_byte.ensures.text),
)
