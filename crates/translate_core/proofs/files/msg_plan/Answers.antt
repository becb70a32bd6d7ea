use Rattle.std.proofs.Common.{subst, sym, length, ◌≤◌, List, ℕ}
use Rattle.carrier_model.specs.Bytes.{MOST_BYTES}
use Rattle.cfb_layout.specs.Versions.{sector_of}
use Rattle.job_model.proofs.WithinLimits.{parts_within}
use Rattle.msg_tree.specs.Whole.{plain_of}
use Rattle.translate_core.proofs.Limiting.{file_parts, file_fits, file_laid, file_end}
use Rattle.translate_core.proofs.files.msg_plan.Goals as goal

pub returns-in-Some-clause-end : goal.returns-in-Some-clause-end
returns-in-Some-clause-end g c = file_parts (sector_of c.args.version) (plain_of c.args.tree.now) c.in-Some.limit c.in-Some.ensures

pub files_of-requires-clause-parts : goal.files_of-requires-clause-parts
files_of-requires-clause-parts g c = (parts_within (plain_of c.args.tree.now) (sym c.in_default-fits_msg.ensures)).1

pub returns-in-Ok-new-clause-ok : goal.returns-in-Ok-new-clause-ok
returns-in-Ok-new-clause-ok g c = file_laid (sector_of c.args.version) (plain_of c.args.tree.now) c.in-Ok-files_of.files c.in-Ok-new.plan c.grown_lists_are_trees.ensures.tree c.sorted_lists_are_laid_out.ensures.same c.in-Ok-files_of.ensures c.in-Ok-new.ensures.ok

pub returns-in-Ok-new-clause-fits : goal.returns-in-Ok-new-clause-fits
returns-in-Ok-new-clause-fits g c =
    let is = file_laid (sector_of c.args.version) (plain_of c.args.tree.now) c.in-Ok-files_of.files c.in-Ok-new.plan c.grown_lists_are_trees.ensures.tree c.sorted_lists_are_laid_out.ensures.same c.in-Ok-files_of.ensures c.in-Ok-new.ensures.ok in
    file_fits (sector_of c.args.version) (plain_of c.args.tree.now) c.in_default-fits_msg.ensures (subst (λ (x : List ℕ). length x ≤ MOST_BYTES) is c.in-Ok-new.ensures.fits)

pub returns-in-Err-TooLarge-clause-end : goal.returns-in-Err-TooLarge-clause-end
returns-in-Err-TooLarge-clause-end g c = file_end (sector_of c.args.version) (plain_of c.args.tree.now) c.in-Ok-files_of.files c.in-Err-TooLarge.size c.in-Err-TooLarge.field-0 c.grown_lists_are_trees.ensures.tree c.sorted_lists_are_laid_out.ensures.same c.in-Ok-files_of.ensures c.in_default-fits_msg.ensures c.in-Err-TooLarge.field-0-is c.in-Err-TooLarge.ensures.end
