use Rattle.std.proofs.Common.{◌≡◌, ◌≤◌, drop}
use Rattle.carrier_model.specs.Tree.{depth}
use Rattle.edit_model.specs.Edits.{edited_from, edited_tree}
use Rattle.msg_tree.specs.Keeping.{HasStores}
use Rattle.msg_tree.specs.Whole.{plain_of}
use Rattle.tree_edit.specs.Opened.{open_tree_of}
use Rattle.tree_edit.proofs.whole.edit_in_place.Given as goal

abbrev pub invariant-loop-at : goal.invariant-loop-at
invariant-loop-at g l = record {
  left : edited_from l.at (drop l.at l.edits) (open_tree_of g.C.Blob.bytes l.message) ≡ edited_tree l.edits (plain_of l.fn.tree);
  depth : depth (open_tree_of g.C.Blob.bytes l.message) ≤ 32;
  stores : HasStores (open_tree_of g.C.Blob.bytes l.message);
}
