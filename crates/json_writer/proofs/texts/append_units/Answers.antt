use Rattle.carrier_model.specs.Bytes.{le16}
use Rattle.json_writer.proofs.Decoding.{within_more, within_stops}
use Rattle.json_writer.proofs.Lists.{item_parts}
use Rattle.json_writer.proofs.texts.append_units.Goals as goal

pub returns-in_err-append : goal.returns-in_err-append
returns-in_err-append g c = within_stops c.put_few-used.new.decoder _ _ _ (item_parts le16 _ c.loop-rest.rest.now _ _ c.split_at.ensures.front c.split_at.ensures.back) c.from_residual.ensures.0 c.loop-rest.invariant (rw c.put_units.ensures at c.put_few-used.ensures.text) c.in_err-append.ensures

pub loop-rest-preserved : goal.loop-rest-preserved
loop-rest-preserved g c = within_more _ _ _ (item_parts le16 _ c.loop-rest.rest.now _ _ c.split_at.ensures.front c.split_at.ensures.back) c.loop-rest.invariant (rw c.put_units.ensures at c.put_few-used.ensures.text) c.in_ok-append.ensures
