use Rattle.std.proofs.Common.{ap, ◌∙◌}
use Rattle.carrier_model.specs.FileTrees.{entries_in}
use Rattle.cfb_list.specs.Trees.{inside, mini_in, long_in}
use Rattle.cfb_list.proofs.SortedSums.{entries_sorted, mini_sorted, long_sorted, inside_sorted}
use Rattle.cfb_list.proofs.laws.sorted_lists_need_as_much.Goals as goal

pub returns-clause-entries : goal.returns-clause-entries
returns-clause-entries c storages k = ap entries_in (inside_sorted storages k) ∙ entries_sorted (inside storages k)

pub returns-clause-mini : goal.returns-clause-mini
returns-clause-mini c storages k = ap mini_in (inside_sorted storages k) ∙ mini_sorted (inside storages k)

pub returns-clause-long : goal.returns-clause-long
returns-clause-long c z storages k = ap (long_in z) (inside_sorted storages k) ∙ long_sorted z (inside storages k)
