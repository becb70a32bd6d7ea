use Rattle.std.proofs.Common.{◌≡◌, take}
use Rattle.std.specs.List.{flat_map, zip}
use Rattle.msg_props.specs.Tagged.{tagged_streams, with_streams}
use Rattle.msg_props.proofs.write_streams.add_values.Given as goal

abbrev pub invariant-loop-k : goal.invariant-loop-k
invariant-loop-k g l = l.files ≡ with_streams l.fn.files l.at (flat_map tagged_streams (take l.k (zip l.tags l.props)))
