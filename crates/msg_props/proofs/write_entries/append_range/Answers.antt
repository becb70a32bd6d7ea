use Rattle.std.proofs.Common.{arith}
use Rattle.msg_props.proofs.WrittenEntries.{range_more}
use Rattle.msg_props.proofs.write_entries.append_range.Goals as goal

pub loop-k-preserved : goal.loop-k-preserved
loop-k-preserved g c =
    range_more c.args.from c.args.to c.loop-k.k c.args.tags.now c.args.props.now c.get.result.now c.args.out.now.items c.loop-k.out.items _
    (omega (arith, c.loop-k-test.true)) c.requires.within c.requires.each c.get.ensures c.loop-k.invariant c.in_ok-append_entry.ensures
