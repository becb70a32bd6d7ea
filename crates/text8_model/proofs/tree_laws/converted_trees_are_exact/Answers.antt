use Rattle.std.proofs.Common.{subst, sym, ◌∙◌}
use Rattle.text8_model.specs.Become.{UnicodeOf}
use Rattle.text8_model.proofs.TreeLaws.{unicode_means, unicode_found}
use Rattle.text8_model.proofs.tree_laws.converted_trees_are_exact.Goals as goal

pub returns : goal.returns
returns c = record {
  iff = λ t u. (unicode_means t u, λ h. subst (UnicodeOf t) (sym h.1) (unicode_found t h.0));
  one = λ t u v a b. (unicode_means t u a).1 ∙ sym (unicode_means t v b).1;
}
