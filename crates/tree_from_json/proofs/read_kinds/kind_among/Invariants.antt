use Rattle.std.proofs.Common.{◌≡◌, drop, map}
use Rattle.json_model.specs.Properties.{kind_among}
use Rattle.tree_from_json.specs.KindRows.{kind_row}
use Rattle.tree_from_json.proofs.read_kinds.kind_among.Given as goal

abbrev pub invariant-loop-kind : goal.invariant-loop-kind
invariant-loop-kind l = kind_among (map kind_row (drop l.kind-index l.kinds)) l.name ≡ kind_among (map kind_row l.kinds) l.name
