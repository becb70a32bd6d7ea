use Rattle.json_writer.proofs.Counted.{partly_more, partly_stops}
use Rattle.json_writer.proofs.HexStrings.{hex_parts}
use Rattle.json_writer.proofs.digits.append_pairs.Goals as goal

pub returns-in_err-append_few : goal.returns-in_err-append_few
returns-in_err-append_few g c = partly_stops _ _ (hex_parts _ c.loop-rest.rest.now _ _ c.split_at.ensures.front c.split_at.ensures.back) c.from_residual.ensures.0 c.loop-rest.invariant c.in_err-append_few.ensures

pub loop-rest-preserved : goal.loop-rest-preserved
loop-rest-preserved g c = partly_more _ _ (hex_parts _ c.loop-rest.rest.now _ _ c.split_at.ensures.front c.split_at.ensures.back) c.loop-rest.invariant c.in_ok-append_few.ensures
