use Rattle.std.proofs.Common.{◌≡◌, ◌-◌, take}
use Rattle.std.specs.List.{flat_map}
use Rattle.msg_model.specs.WrittenMsg.{length_words}
use Rattle.prop_values.specs.Kinds.{kind_number}
use Rattle.msg_props.proofs.write_values.lengths_bytes.Given as goal

abbrev pub invariant-loop-k : goal.invariant-loop-k
invariant-loop-k g l = l.out.items ≡ flat_map (length_words (kind_number l.kind - 0x1000)) (take l.k l.list)
