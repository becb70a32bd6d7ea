use Rattle.std.proofs.Common.{ℕ, List, [], refl}
use Rattle.msg_props.proofs.TaggedLists.{loop_more}
use Rattle.msg_props.proofs.write_values.guids_bytes.Goals as goal

pub loop-k-preserved : goal.loop-k-preserved
loop-k-preserved c = loop_more (λ (set : List ℕ). set) c.args.list.now c.loop-k.k _ [] _ _ _ c.get.ensures c.loop-k.invariant c.in_ok-extend_from_slice.ensures.items refl
