use Rattle.std.proofs.Common.{◌-◌, [], refl}
use Rattle.msg_model.specs.WrittenMsg.{length_words}
use Rattle.prop_values.specs.Kinds.{kind_number}
use Rattle.msg_props.proofs.TaggedLists.{loop_more}
use Rattle.msg_props.proofs.write_values.lengths_bytes.Goals as goal

pub loop-k-preserved : goal.loop-k-preserved
loop-k-preserved g c = loop_more (length_words (kind_number c.args.kind - 0x1000)) c.args.list.now c.loop-k.k _ [] _ _ _ c.get.ensures c.loop-k.invariant c.in_ok-append_length.ensures refl
