use Rattle.std.proofs.Common.{◌≡◌}
use Rattle.json_model.specs.StoreForms as plain
use Rattle.tree_from_json.proofs.Paths.{leads_from}
use Rattle.tree_from_json.proofs.entries.leads_to.Given as goal

abbrev pub invariant-loop-k : goal.invariant-loop-k
invariant-loop-k l = plain.leads_to l.one l.other ≡ leads_from l.one l.other l.k
