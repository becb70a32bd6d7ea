use Rattle.std.proofs.Common.{◌≡◌, map, take}
use Rattle.text8_model.specs.Unicode.{is_to_convert}
use Rattle.tree_text8.proofs.properties.marks.Given as goal

abbrev pub invariant-loop-k : goal.invariant-loop-k
invariant-loop-k g l = l.marks.items ≡ map (is_to_convert l.props) (take l.k l.props)
