use Rattle.std.proofs.Common.{ap, refl}
use Rattle.carrier_model.specs.FileTrees.{FileTree}
use Rattle.carrier_model.specs.Layout.{file_bytes, plan_of}
use Rattle.cfb_writer.specs.Laid.{slots_in}
use Rattle.cfb_writer.specs.Planned.{laid_of}
use Rattle.cfb_writer.proofs.PlanSizes.{plan_is}
use Rattle.cfb_writer.proofs.laws.sorted_lists_are_laid_out.Goals as goal

pub returns-clause-sorted : goal.returns-clause-sorted
returns-clause-sorted c z class storages = ap (λ (files : FileTree). file_bytes z (plan_of z (slots_in (laid_of class files))) (slots_in (laid_of class files))) (c.sorted_lists_are_trees.ensures.tree storages)

pub returns-clause-same : goal.returns-clause-same
returns-clause-same c z class files = refl

pub returns-clause-numbers : goal.returns-clause-numbers
returns-clause-numbers c z class files = plan_is z class files
