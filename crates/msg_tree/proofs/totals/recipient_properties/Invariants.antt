use Rattle.std.proofs.Common.{◌≡◌, length, sum_by, take}
use Rattle.carrier_model.specs.Totals.{capped}
use Rattle.msg_tree.proofs.totals.recipient_properties.Given as goal

abbrev pub invariant-loop-k : goal.invariant-loop-k
invariant-loop-k g l = l.all ≡ capped (sum_by length (take l.k l.recipients))
