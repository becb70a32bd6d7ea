use Rattle.std.proofs.Common.{[]}
use Rattle.text_model.specs.SampleTrees.{sample_recipient}
use Rattle.tree_samples.proofs.Made.{one_more}
use Rattle.tree_samples.proofs.parts.recipients.Goals as goal

pub loop-number-preserved : goal.loop-number-preserved
loop-number-preserved c = one_more [] sample_recipient c.loop-number.number c.loop-number.list c.push.new.self c.in_ok-recipient.field-0 c.loop-number.invariant c.in_ok-recipient.ensures c.in_ok-push.ensures.ok
