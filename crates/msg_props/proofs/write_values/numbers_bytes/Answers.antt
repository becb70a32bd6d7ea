use Rattle.std.proofs.Common.{[], take, ap, ◌∙◌, arith}
use Rattle.carrier_model.specs.Bytes.{le_bytes}
use Rattle.msg_props.proofs.TaggedLists.{loop_more}
use Rattle.msg_props.proofs.WrittenFields.{number_front}
use Rattle.msg_props.proofs.write_values.numbers_bytes.Goals as goal

pub loop-k-preserved : goal.loop-k-preserved
loop-k-preserved c =
    let w = c.width_of_one-width.result in
    loop_more (le_bytes w) c.args.list.now c.loop-k.k _ [] _ _ _ c.get.ensures c.loop-k.invariant c.in_ok-extend_from_slice.ensures.items
    (ap (take w) c.le64.ensures ∙ number_front w _ c.width_of_one-width.ensures.size (omega (arith, c.requires.some, c.width_of_one-width.ensures.width)))
