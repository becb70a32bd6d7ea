use Rattle.std.proofs.Common.{◌∙◌, ◌+◌, sym, ap, drop, take, get_or}
use Rattle.carrier_model.specs.Bytes.{le16, unit_bytes}
use Rattle.carrier_io.proofs.Known.{flat_map-at}
use Rattle.json_model.specs.Digits.{hex}
use Rattle.json_writer.proofs.Counted.{stops, one_more, so_far_as}
use Rattle.json_writer.proofs.HexStrings.{hex-append, hex_three}
use Rattle.json_writer.proofs.Lists.{item_more}
use Rattle.json_writer.proofs.texts.append_unit_pairs.Goals as goal

pub returns-in_err-append_pairs : goal.returns-in_err-append_pairs
returns-in_err-append_pairs g c =
    let us = c.args.units.now in
    let k = c.loop-unit.unit-index in
    let unit = get_or us k 0 in
    stops _ _ (ap hex (flat_map-at le16 us k 0 c.loop-unit-test.true) ∙ hex_three (unit_bytes (take k us)) (le16 unit) (unit_bytes (drop (k + 1) us))) c.from_residual.ensures.0 c.loop-unit.invariant (rw c.to_le_bytes.ensures at c.in_err-append_pairs.ensures)

pub loop-unit-preserved : goal.loop-unit-preserved
loop-unit-preserved g c =
    let us = c.args.units.now in
    let k = c.loop-unit.unit-index in
    so_far_as _ (sym (ap hex (item_more le16 us k 0 c.loop-unit-test.true) ∙ hex-append (unit_bytes (take k us)) (le16 (get_or us k 0)))) (one_more c.loop-unit.invariant (rw c.to_le_bytes.ensures at c.in_ok-append_pairs.ensures))
