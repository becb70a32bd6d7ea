use Rattle.json_writer.proofs.Decoding.{within_more, within_stops}
use Rattle.json_writer.proofs.Lists.{split_parts}
use Rattle.json_writer.proofs.texts.append_piece.Goals as goal

pub returns-in_err-append-clause-text : goal.returns-in_err-append-clause-text
returns-in_err-append-clause-text g c = within_stops c.put_few-used.new.decoder _ _ _ (split_parts _ c.loop-rest.rest.now _ _ c.split_at.ensures.front c.split_at.ensures.back) c.from_residual.ensures.0 c.loop-rest.invariant c.put_few-used.ensures.text c.in_err-append.ensures

pub loop-rest-preserved : goal.loop-rest-preserved
loop-rest-preserved g c = within_more _ _ _ (split_parts _ c.loop-rest.rest.now _ _ c.split_at.ensures.front c.split_at.ensures.back) c.loop-rest.invariant c.put_few-used.ensures.text c.in_ok-append.ensures
