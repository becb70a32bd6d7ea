use Rattle.std.proofs.Common.{◌≡◌, drop}
use Rattle.text8_model.specs.Unicode as plain
use Rattle.tree_text8.proofs.trees.page_in.Given as goal

abbrev pub invariant-loop-k : goal.invariant-loop-k
invariant-loop-k g l = plain.page_in l.outer l.props ≡ plain.page_in l.outer (drop l.k l.props)
