use Rattle.std.proofs.Common.{◌≡◌, drop}
use Rattle.std.specs.List.{list_any}
use Rattle.tree_text8.specs.Narrow.{are_narrow}
use Rattle.tree_text8.proofs.narrow.any_recipient_is_narrow.Given as goal

abbrev pub invariant-loop-k : goal.invariant-loop-k
invariant-loop-k g l = list_any are_narrow l.recipients ≡ list_any are_narrow (drop l.k l.recipients)
