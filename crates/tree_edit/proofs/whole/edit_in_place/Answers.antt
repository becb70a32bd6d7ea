use Rattle.std.proofs.Common.{◌∙◌, sym}
use Rattle.edit_model.proofs.KeptTrees.{once_depth}
use Rattle.edit_words.specs.Meaning.{edit_of}
use Rattle.tree_edit.specs.Meaning.{why_of}
use Rattle.tree_edit.specs.Opened.{open_tree_of}
use Rattle.tree_edit.proofs.Once.{from_done, from_fails}
use Rattle.tree_edit.proofs.Stores.{once_stores}
use Rattle.tree_edit.proofs.whole.edit_in_place.Goals as goal

pub loop-at-preserved : goal.loop-at-preserved
loop-at-preserved g c =
    let edit = edit_of c.in_ok-read.field-0 in
    let old = open_tree_of g.C.Blob.bytes c.loop-at.message in
    let new = open_tree_of g.C.Blob.bytes c.edit_once.new.message in
    let made = c.in-Ok.ensures.ok in
    record {
      left = sym (from_done c.args.edits.now c.loop-at.at edit old new c.in_ok-read.ensures made) ∙ c.loop-at.invariant.left;
      depth = once_depth edit 32 old new c.loop-at.invariant.depth made;
      stores = once_stores edit old new c.loop-at.invariant.stores made;
    }

pub returns-in-Err-Cannot-clause-refused : goal.returns-in-Err-Cannot-clause-refused
returns-in-Err-Cannot-clause-refused g c =
    let edit = edit_of c.in_ok-read.field-0 in
    let fails = rw c.in-Err-Cannot.field-0-is at c.in-Err-Cannot.ensures.err in
    rw c.in-Err-Cannot.field-0-is (sym c.loop-at.invariant.left ∙ from_fails c.args.edits.now c.loop-at.at edit (open_tree_of g.C.Blob.bytes c.loop-at.message) (why_of c.in-Err-Cannot.why) c.in_ok-read.ensures fails)
