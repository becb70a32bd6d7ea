use Rattle.json.specs.Print.{escape_byte}
use Rattle.json_writer.proofs.Lists.{next_item}
use Rattle.json_writer.proofs.Counted.{partly_more, partly_stops}
use Rattle.json_writer.proofs.characters.append_escaped.Goals as goal

pub returns-in_err-append_byte : goal.returns-in_err-append_byte
returns-in_err-append_byte g c = partly_stops _ _ (next_item escape_byte c.args.bytes.now c.loop-byte.byte-index _ c.loop-byte-test.true) c.from_residual.ensures.0 c.loop-byte.invariant c.in_err-append_byte.ensures

pub loop-byte-preserved : goal.loop-byte-preserved
loop-byte-preserved g c = partly_more _ _ (next_item escape_byte c.args.bytes.now c.loop-byte.byte-index _ c.loop-byte-test.true) c.loop-byte.invariant c.in_ok-append_byte.ensures
