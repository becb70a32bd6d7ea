use Rattle.std.proofs.Common.{◌≡◌, map, take}
use Rattle.msg_model.specs.WrittenMsg.{tag_of}
use Rattle.msg_nameid.specs.Maps.{names_in}
use Rattle.msg_props.proofs.write_tags.tags_of.Given as goal

abbrev pub invariant-loop-k : goal.invariant-loop-k
invariant-loop-k g l = l.tags.items ≡ map (tag_of (names_in l.names)) (take l.k l.props)
