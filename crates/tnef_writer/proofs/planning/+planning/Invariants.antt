use Rattle.std.proofs.Common.{◌≡◌, ◌+◌, ◌*◌, List, length, take}
use Rattle.std.specs.List.{flat_map}
use Rattle.carrier_model.specs.Keys.{Name}
use Rattle.carrier_model.specs.Totals.{capped}
use Rattle.carrier_model.specs.Tree as plain
use Rattle.msg_tree.specs.Meaning.{tree_of, list_of, attached_of}
use Rattle.tnef_writer.specs.MessagePlans.{Adds}
use Rattle.tnef_writer.specs.TreeStores.{stores_at}
use Rattle.tnef_writer.specs.Written.{attachment_bytes}
use Rattle.tnef_writer.proofs.planning.+planning.Given as goal

abbrev pub decreases-plan_message : goal.decreases-plan_message
decreases-plan_message g l = 4 * plain.depth (tree_of g.B.Blob.bytes l.message.now) + 3

abbrev pub decreases-plan_attachments : goal.decreases-plan_attachments
decreases-plan_attachments g l = 4 * plain.depth_in (plain.attachments_from (list_of g.B.Blob.bytes l.attachments.now)) + 2

abbrev pub decreases-plan_attachment : goal.decreases-plan_attachment
decreases-plan_attachment g l = 4 * plain.depth_at (attached_of g.B.Blob.bytes l.attachment.now) + 1

abbrev pub decreases-plan_object : goal.decreases-plan_object
decreases-plan_object g l = 4 * plain.depth_at (attached_of g.B.Blob.bytes l.attachment.now)

abbrev pub invariant-plan_attachments-loop-k : goal.invariant-plan_attachments-loop-k
invariant-plan_attachments-loop-k g l = record {
  size_is : (names : List Name) → l.size ≡ capped (length (flat_map (attachment_bytes names) (take l.k (list_of g.B.Blob.bytes l.attachments))));
  added : (names : List Name) → Adds names (flat_map plain.messages_at (take l.k (list_of g.B.Blob.bytes l.attachments))) (flat_map stores_at (take l.k (list_of g.B.Blob.bytes l.attachments))) l.fn.plans.messages.items l.plans.messages.items l.fn.plans.stores.items l.plans.stores.items;
}
