use Rattle.carrier_model.specs.KeyTexts.{hex_digits, lower}
use Rattle.tree_texts.proofs.Lists.{next_item}
use Rattle.tree_texts.proofs.Partly.{partly_more, partly_stops}
use Rattle.tree_texts.proofs.quoted.write_digits.Goals as goal

pub returns-in_err-write_pieces : goal.returns-in_err-write_pieces
returns-in_err-write_pieces g c = partly_stops _ _ (next_item (hex_digits lower 2) c.args.bytes.now c.loop-byte.byte-index _ c.loop-byte-test.true) c.from_residual.ensures.0 c.loop-byte.invariant (rw c.lower_digits2.ensures at c.in_err-write_pieces.ensures)

pub loop-byte-preserved : goal.loop-byte-preserved
loop-byte-preserved g c = partly_more _ _ (next_item (hex_digits lower 2) c.args.bytes.now c.loop-byte.byte-index _ c.loop-byte-test.true) c.loop-byte.invariant (rw c.lower_digits2.ensures at c.in_ok-write_pieces.ensures)
