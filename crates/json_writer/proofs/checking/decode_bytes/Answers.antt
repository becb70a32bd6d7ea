use Rattle.std.proofs.lemmas.List.{take_more}
use Rattle.json_writer.proofs.Decoding.{fits_more}
use Rattle.json_writer.proofs.checking.decode_bytes.Goals as goal

pub loop-byte-preserved : goal.loop-byte-preserved
loop-byte-preserved c = fits_more _ _ (take_more c.args.bytes.now c.loop-byte.byte-index _ c.loop-byte-test.true) c.loop-byte.invariant c.take_byte.ensures.fits
