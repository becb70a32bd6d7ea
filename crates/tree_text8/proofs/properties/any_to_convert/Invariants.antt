use Rattle.std.proofs.Common.{◌≡◌, drop}
use Rattle.std.specs.List.{list_any}
use Rattle.text8_model.specs.Unicode.{is_to_convert}
use Rattle.tree_text8.specs.Narrow.{are_narrow}
use Rattle.tree_text8.proofs.properties.any_to_convert.Given as goal

abbrev pub invariant-loop-k : goal.invariant-loop-k
invariant-loop-k g l = are_narrow l.props ≡ list_any (is_to_convert l.props) (drop l.k l.props)
