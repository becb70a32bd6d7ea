use Rattle.std.proofs.Common.{◌+◌, ◌*◌}
use Rattle.tnef_attributes.specs.Views.{views}
use Rattle.tnef_message.proofs.Streams.{Progress}
use Rattle.tnef_message.proofs.whole.+reading.Given as goal

abbrev pub decreases-message_at : goal.decreases-message_at
decreases-message_at l = 5 * l.levels + 4

abbrev pub decreases-gift_of : goal.decreases-gift_of
decreases-gift_of l = 5 * l.levels + 3

abbrev pub decreases-attachment_gift : goal.decreases-attachment_gift
decreases-attachment_gift l = 5 * l.levels + 2

abbrev pub decreases-body_in : goal.decreases-body_in
decreases-body_in l = 5 * l.levels + 1

abbrev pub decreases-message_in : goal.decreases-message_in
decreases-message_in l = 5 * l.levels

abbrev pub invariant-message_at-loop-k : goal.invariant-message_at-loop-k
invariant-message_at-loop-k l = Progress l.levels (views l.attributes-inside.list.items) l.k l.draft l.fn.passed l.passed
