use Rattle.std.proofs.Common.{◌≡◌, map}
use Rattle.std.specs.List.{range_with_len}
use Rattle.text_model.specs.SampleTrees.{sample_recipient}
use Rattle.tree_samples.proofs.parts.recipients.Given as goal

abbrev pub invariant-loop-number : goal.invariant-loop-number
invariant-loop-number l = l.list ≡ map sample_recipient (range_with_len 0 l.number)
