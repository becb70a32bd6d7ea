use Rattle.std.proofs.Common.{◌≡◌, map}
use Rattle.std.specs.List.{range_with_len}
use Rattle.text_model.specs.SampleTrees.{plain_attachment}
use Rattle.msg_tree.specs.Meaning.{list_of}
use Rattle.tree_samples.proofs.whole.attachments.Given as goal

abbrev pub invariant-loop-number : goal.invariant-loop-number
invariant-loop-number l = list_of (λ v. v.items) l.list ≡ map plain_attachment (range_with_len 0 l.number)
