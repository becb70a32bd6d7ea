use Rattle.std.proofs.Common.{◌≡◌, map, drop}
use Rattle.std.specs.List.{list_all}
use Rattle.json_model.specs.StoreForms.{is_fit}
use Rattle.tree_from_json.specs.Entries.{placed_of}
use Rattle.tree_from_json.proofs.read_stores.are_fit.Given as goal

abbrev pub invariant-loop-entry : goal.invariant-loop-entry
invariant-loop-entry l = list_all is_fit (map placed_of l.entries) ≡ list_all is_fit (map placed_of (drop l.entry-index l.entries))
