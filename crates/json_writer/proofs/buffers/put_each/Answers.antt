use Rattle.std.proofs.Common.{◌∙◌, ◌<◌, ◌≤◌, ◌+◌, ◌*◌, length, take_all, arith}
use Rattle.json_writer.proofs.Decoding.{stands_more, stands_then}
use Rattle.json_writer.proofs.Lists.{field_is, take_two}
use Rattle.json_writer.proofs.buffers.put_each.Goals as goal

pub loop-k-preserved : goal.loop-k-preserved
loop-k-preserved c =
    let both : 2 * c.loop-k.k + 1 < length c.args.bytes.now = omega (arith, c.loop-k-test.true, c.loop-k.auto.k-end) in record {
      whole = c.put_unit-used.ensures.whole;
      room = omega (arith, c.loop-k.invariant.room, c.put_unit-used.ensures.count);
      stands = stands_more _ _ _ (take_two c.args.bytes.now c.loop-k.k 0 both) c.loop-k.invariant.stands (c.put_unit-used.ensures.text _ _ (c.u16_at.ensures ∙ field_is c.args.bytes.now c.loop-k.k both));
    }

pub returns-clause-text : goal.returns-clause-text
returns-clause-text c =
    let all : length c.args.bytes.now ≤ 2 * c.loop-k.k = omega (arith, c.loop-k-test.false, c.loop-k.auto.k-end, c.requires.even) in
    stands_then (take_all (2 * c.loop-k.k) c.args.bytes.now all) c.loop-k.invariant.stands
