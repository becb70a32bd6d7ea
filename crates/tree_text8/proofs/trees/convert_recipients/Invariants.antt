use Rattle.std.proofs.Common.{◌≡◌, ◌+◌, length, take, drop}
use Rattle.std.specs.Prelude.{sum_by}
use Rattle.text8_model.specs.Unicode.{converted_props, bad_recipients}
use Rattle.tree_text8.specs.Walks.{AreOne}
use Rattle.tree_text8.proofs.InPlace.{made_to}
use Rattle.tree_text8.proofs.trees.convert_recipients.Given as goal

abbrev pub invariant-loop-k : goal.invariant-loop-k
invariant-loop-k g l = record {
  made : l.recipients ≡ made_to (converted_props l.code) l.fn.recipients l.k;
  long : length l.recipients ≡ length l.fn.recipients;
  bad : bad_recipients l.code l.fn.next l.fn.recipients ≡ bad_recipients l.code (l.fn.next + sum_by length (take l.k l.fn.recipients)) (drop l.k l.fn.recipients);
  next : AreOne l.next (l.fn.next + sum_by length (take l.k l.fn.recipients));
}
