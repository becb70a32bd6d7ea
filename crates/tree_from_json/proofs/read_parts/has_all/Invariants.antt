use Rattle.std.proofs.Common.{◌≡◌, drop, map, is_some}
use Rattle.std.specs.List.{list_all}
use Rattle.serde_json.specs.Find.{get}
use Rattle.json_values.specs.View.{view}
use Rattle.tree_from_json.proofs.read_parts.has_all.Given as goal

abbrev pub invariant-loop-name : goal.invariant-loop-name
invariant-loop-name l =
    list_all (λ name. is_some (get name (view l.value))) (map (λ name. name.now) (drop l.name-index l.names))
    ≡ list_all (λ name. is_some (get name (view l.value))) (map (λ name. name.now) l.names)
