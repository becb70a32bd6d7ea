use Rattle.std.proofs.Common.{get_or, arith}
use Rattle.std.proofs.lemmas.Option.{slice_get-get_or}
use Rattle.msg_props.proofs.AddedStreams.{values_more, values_all}
use Rattle.msg_props.proofs.write_streams.add_values.Goals as goal

pub loop-k-preserved : goal.loop-k-preserved
loop-k-preserved g c =
    let tags = c.args.tags.now in
    let k = c.loop-k.k in
    values_more c.grown_lists_are_trees.ensures.steps c.args.files.now c.loop-k.files c.add_prop.new.files c.args.at tags c.args.props.now k (get_or tags k 0) c.get.result.now
    (slice_get-get_or tags k 0 (omega (arith, c.loop-k-test.true, c.len-k-end.ensures, c.requires.each))) c.get.ensures c.loop-k.invariant c.in_ok-add_prop.ensures

pub returns : goal.returns
returns g c = values_all c.args.files.now c.loop-k.files c.args.at c.args.tags.now c.args.props.now c.loop-k.k c.requires.each (omega (arith, c.loop-k-test.false, c.len-k-end.ensures)) c.loop-k.invariant
