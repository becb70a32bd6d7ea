use Rattle.std.proofs.Common.{◌≡◌, ◌++◌, take}
use Rattle.std.specs.List.{flat_map}
use Rattle.msg_props.specs.Tagged.{tagged_entry, tagged_range}
use Rattle.msg_props.proofs.write_entries.append_range.Given as goal

abbrev pub invariant-loop-k : goal.invariant-loop-k
invariant-loop-k g l = l.out.items ≡ l.fn.out.items ++ flat_map tagged_entry (take l.k (tagged_range l.from l.to l.tags l.props))
