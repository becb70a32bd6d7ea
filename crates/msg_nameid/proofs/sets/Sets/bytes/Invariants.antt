use Rattle.std.proofs.Common.{◌≡◌, take}
use Rattle.std.specs.List.{flat_map}
use Rattle.msg_nameid.proofs.sets.Sets.bytes.Given as goal

abbrev pub invariant-loop-set : goal.invariant-loop-set
invariant-loop-set l = l.bytes.items ≡ flat_map (λ g. g.0) (take l.set-index l.set-items)
