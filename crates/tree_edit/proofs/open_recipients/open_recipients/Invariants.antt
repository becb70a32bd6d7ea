use Rattle.std.proofs.Common.{◌≡◌, length, map, take, drop}
use Rattle.tree_edit.specs.ChunkedLists.{listed}
use Rattle.tree_edit.specs.Opened.{props_of}
use Rattle.tree_edit.proofs.open_recipients.open_recipients.Given as goal

abbrev pub invariant-loop-k : goal.invariant-loop-k
invariant-loop-k g l = record {
  taken : map props_of (listed l.rows) ≡ take l.k l.fn.recipients;
  left : drop l.k l.recipients ≡ drop l.k l.fn.recipients;
  count : length l.recipients ≡ length l.fn.recipients;
}
