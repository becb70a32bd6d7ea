-- The first limit that a job passes.
use Rattle.std.proofs.Common.{◌≡◌, ℕ, ◌<◌, ◌≤◌, ◌^◌, List, [], ◌∷◌, length, Option, Some, None, refl, sym, ap, subst, ◌∙◌, arith}
use Rattle.std.specs.Io.KnownBytes.{Appends}
use Rattle.carrier_io.specs.Known.{AppendsFront}
use Rattle.carrier_model.specs.Bytes.{MOST_BYTES}
use Rattle.carrier_model.specs.Limits.{first_limit, msg_limits, too_large}
use Rattle.carrier_model.specs.FileTrees.{FileTree}
use Rattle.carrier_model.specs.Layout.{MESSAGE_CLASS, layout}
use Rattle.carrier_model.specs.Totals.{capped}
use Rattle.cfb_list.specs.Grown.{grown}
use Rattle.cfb_list.specs.Listed.{Listed, tree_of}
use Rattle.carrier_io.specs.declared.failures.PlanEnd.{PlanEnd}
use Rattle.carrier_io.specs.declared.failures.PlanEnd.TheVariants.{TooLarge}
use Rattle.cfb_writer.specs.PlanEnds.{IsEndOf}
use Rattle.cfb_writer.specs.Planned.{layout_of}
use Rattle.cfb_layout.specs.Versions.{sector_of}
use Rattle.cfb_layout.specs.declared.version.Version.{Version}
use Rattle.cfb_layout.specs.declared.version.Version.TheVariants.{Three, Four}
use Rattle.carrier_model.specs.Tree.{Message}
use Rattle.carrier_model.proofs.Messages.{first_found, first_later, is_passed, isnt_passed}
use Rattle.job_model.specs.Commands.{wrap}
use Rattle.job_model.specs.Targets.{IsResult, passed_limit, passed_size}
use Rattle.mail_model.specs.EnvelopeText.{envelope_of}
use Rattle.msg_model.specs.WrittenMsg.{files_of, msg_in}
use Rattle.msg_tree.specs.Limiting.{limit_of}
use Rattle.msg_tree.specs.declared.target_limits.Limit.{Limit}
use Rattle.msg_tree.specs.declared.target_limits.Limit.TheVariants.{Size}
use Rattle.translate_core.specs.Ends.{CutOff, Written, file_limit}
use Rattle.translate_core.specs.Jobs.{file_job}

size_passed : (x : List ℕ) → MOST_BYTES < length x → first_limit (passed_size x) ≡ Some (too_large (capped (length x)))
size_passed x long = ap first_limit (is_passed MOST_BYTES (length x) (too_large (capped (length x))) long)

size_fits : (x : List ℕ) → length x ≤ MOST_BYTES → first_limit (passed_size x) ≡ None
size_fits x short = ap first_limit (isnt_passed MOST_BYTES (length x) (too_large (capped (length x))) short)

-- ---- .msg files

pub file_parts : (z : ℕ) (t : Message) (limit : Limit) → Some (limit_of limit) ≡ first_limit (msg_limits t) → file_limit z t ≡ Some (limit_of limit)
file_parts z t limit e = first_found (msg_limits t) (passed_size (msg_in z t)) (limit_of limit) (sym e)

pub file_too_large : (z : ℕ) (t : Message) (n : ℕ) → None ≡ first_limit (msg_limits t) → MOST_BYTES < length (msg_in z t) → n ≡ capped (length (msg_in z t)) → file_limit z t ≡ Some (limit_of (Size n))
file_too_large z t n none long e = first_later (msg_limits t) (passed_size (msg_in z t)) (sym none) ∙ size_passed (msg_in z t) long ∙ ap (λ (k : ℕ). Some (too_large k)) (sym e)

pub file_fits : (z : ℕ) (t : Message) → None ≡ first_limit (msg_limits t) → length (msg_in z t) ≤ MOST_BYTES → file_limit z t ≡ None
file_fits z t none short = first_later (msg_limits t) (passed_size (msg_in z t)) (sym none) ∙ size_fits (msg_in z t) short

-- ---- mails

pub mail_too_large : (b : List ℕ) (t : Message) (n : ℕ) → length (envelope_of b) ≡ n → MOST_BYTES < n → n < 2 ^ 64 → passed_limit wrap t b ≡ Some (limit_of (Size n))
mail_too_large b t n is long fits =
    let same : capped (length (envelope_of b)) ≡ n = omega (arith, is, fits) in
    size_passed (envelope_of b) (rw is long) ∙ ap (λ (k : ℕ). Some (too_large k)) same

pub mail_fits : (b : List ℕ) (t : Message) (n : ℕ) → length (envelope_of b) ≡ n → n ≤ MOST_BYTES → passed_limit wrap t b ≡ None
mail_fits b t n is short = size_fits (envelope_of b) (rw is short)

-- ---- files

pub file_laid : (z : ℕ) (t : Message) (l : Listed) (p : List ℕ) → ((files : FileTree) → tree_of (grown ([] ∷ []) 0 files) ≡ files) → ((y : ℕ) (class : List ℕ) (files : FileTree) → layout_of y class files ≡ layout y class files) → l ≡ record { root_class = MESSAGE_CLASS; storages = grown ([] ∷ []) 0 (files_of t) } → p ≡ layout_of z l.root_class (tree_of l.storages) → p ≡ msg_in z t
file_laid z t l p tree same e is =
    is
    ∙ ap (λ (k : Listed). layout_of z k.root_class (tree_of k.storages)) e
    ∙ ap (λ (f : FileTree). layout_of z MESSAGE_CLASS f) (tree (files_of t))
    ∙ same z MESSAGE_CLASS (files_of t)

-- the layout is too large, so the file is
pub file_end : (z : ℕ) (t : Message) (l : Listed) (n : ℕ) (end : PlanEnd) → ((files : FileTree) → tree_of (grown ([] ∷ []) 0 files) ≡ files) → ((y : ℕ) (class : List ℕ) (files : FileTree) → layout_of y class files ≡ layout y class files) → l ≡ record { root_class = MESSAGE_CLASS; storages = grown ([] ∷ []) 0 (files_of t) } → None ≡ first_limit (msg_limits t) → end ≡ TooLarge n → IsEndOf (layout_of z l.root_class (tree_of l.storages)) end → file_limit z t ≡ Some (limit_of (Size n))
file_end z t l n end tree same e none large ends =
    let is = file_laid z t l (layout_of z l.root_class (tree_of l.storages)) tree same e refl in
    let both : IsEndOf (layout_of z l.root_class (tree_of l.storages)) (TooLarge n) = subst (IsEndOf (layout_of z l.root_class (tree_of l.storages))) large ends in
    file_too_large z t n none (subst (λ (x : List ℕ). MOST_BYTES < length x) is both.0) (both.1 ∙ ap (λ (x : List ℕ). capped (length x)) is)

job_limit : (v : Version) (t : Message) (b : List ℕ) → passed_limit (file_job v) t b ≡ file_limit (sector_of v) t
job_limit Three t b = refl
job_limit Four t b = refl

job_result : (v : Version) (t : Message) (b w : List ℕ) → w ≡ msg_in (sector_of v) t → IsResult (file_job v) t b w
job_result Three t b w e = e
job_result Four t b w e = e

pub file_written : (v : Version) (t : Message) (b p : List ℕ) (old new : Option (List ℕ)) → file_limit (sector_of v) t ≡ None → p ≡ msg_in (sector_of v) t → Appends old new p → Written (file_job v) t b old new
file_written v t b p old new none e a = record { fits = job_limit v t b ∙ none; w = p; is = job_result v t b p e; appended = a }

pub file_cut : (v : Version) (t : Message) (b p : List ℕ) (old new : Option (List ℕ)) → file_limit (sector_of v) t ≡ None → p ≡ msg_in (sector_of v) t → AppendsFront old new p → CutOff (file_job v) t b old new
file_cut v t b p old new none e a = record { fits = job_limit v t b ∙ none; w = p; is = job_result v t b p e; appended = a }
