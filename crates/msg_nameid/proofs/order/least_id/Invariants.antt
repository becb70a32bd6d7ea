use Rattle.std.proofs.Common.{map}
use Rattle.prop_names.specs.Meaning.{name_of}
use Rattle.msg_nameid.specs.Maps.{pair_of}
use Rattle.msg_nameid.proofs.OrderLaws.{IsLeastOf}
use Rattle.msg_nameid.proofs.order.least_id.Given as goal

abbrev pub invariant-loop-k : goal.invariant-loop-k
invariant-loop-k l = IsLeastOf (map pair_of l.entries) (name_of l.name) l.k l.least
