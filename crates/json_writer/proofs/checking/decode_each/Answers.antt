use Rattle.std.proofs.Common.{◌≡◌, ◌∙◌, ◌<◌, ◌≤◌, ◌+◌, ◌*◌, length, take_all, arith}
use Rattle.std.specs.Prelude.{None}
use Rattle.json_writer.proofs.Decoding.{fits_more, fits_then, fits_unit}
use Rattle.json_writer.proofs.Lists.{field_is, take_two}
use Rattle.json_writer.proofs.checking.decode_each.Goals as goal

pub loop-k-preserved : goal.loop-k-preserved
loop-k-preserved c =
    let both : 2 * c.loop-k.k + 1 < length c.args.bytes.now = omega (arith, c.loop-k-test.true, c.loop-k.auto.k-end) in
    let whole : c.take_unit.new.self.low ≡ None = c.take_unit.ensures.low ∙ c.loop-k.invariant.0 in
    (whole, fits_more _ _ (take_two c.args.bytes.now c.loop-k.k 0 both) c.loop-k.invariant.1 (fits_unit c.loop-k.decoder c.take_unit.new.self _ _ _ c.loop-k.invariant.0 (c.u16_at.ensures ∙ field_is c.args.bytes.now c.loop-k.k both) c.take_unit.ensures.high c.take_unit.ensures.fits whole))

pub returns : goal.returns
returns c =
    let all : length c.args.bytes.now ≤ 2 * c.loop-k.k = omega (arith, c.loop-k-test.false, c.loop-k.auto.k-end, c.requires.even) in
    fits_then (take_all (2 * c.loop-k.k) c.args.bytes.now all) c.loop-k.invariant.1
