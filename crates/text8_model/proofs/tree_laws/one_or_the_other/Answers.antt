use Rattle.text8_model.proofs.TreeLaws.{never_both, one_of_both}
use Rattle.text8_model.proofs.tree_laws.one_or_the_other.Goals as goal

pub returns : goal.returns
returns c = λ t. (never_both t, one_of_both t)
