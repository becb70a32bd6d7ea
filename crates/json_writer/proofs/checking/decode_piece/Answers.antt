use Rattle.json_writer.proofs.Decoding.{fits_to_more}
use Rattle.json_writer.proofs.Lists.{split_parts}
use Rattle.json_writer.proofs.checking.decode_piece.Goals as goal

pub loop-rest-preserved : goal.loop-rest-preserved
loop-rest-preserved c = fits_to_more c.split_at.result.0.now _ (split_parts _ c.loop-rest.rest.now _ _ c.split_at.ensures.front c.split_at.ensures.back) c.loop-rest.invariant c.decode_few.ensures
