use Rattle.std.proofs.Common.{◌∙◌, sym}
use Rattle.edit_model.specs.Edits.{at_path, edited_once}
use Rattle.edit_words.specs.Meaning.{edit_of}
use Rattle.edit_words.specs.Parts.{part_of, path_of}
use Rattle.tree_edit.specs.Changes.{on_part}
use Rattle.tree_edit.specs.Opened.{open_tree_of}
use Rattle.tree_edit.proofs.Once.{once_is}
use Rattle.tree_edit.proofs.Steps.{ok_above, err_above}
use Rattle.tree_edit.proofs.editing.edit_once.Goals as goal

pub returns-clause-ok : goal.returns-clause-ok
returns-clause-ok g c = ok_above c.edit_below.result _ _ (λ n is. sym (once_is (edit_of c.args.edit) (open_tree_of g.C.Blob.bytes c.args.message.now)) ∙ is) c.edit_below.ensures.ok

pub returns-clause-err : goal.returns-clause-err
returns-clause-err g c =
    let e = edit_of c.args.edit in
    let t = open_tree_of g.C.Blob.bytes c.args.message.now in
    err_above c.edit_below.result (at_path (on_part (part_of e) e) (path_of e) t) (edited_once e t) (λ why h. sym (once_is e t) ∙ h) c.edit_below.ensures.err
