use Rattle.std.proofs.Common.{arith, ap, length, sum_by}
use Rattle.carrier_model.specs.Tree as plain
use Rattle.msg_tree.proofs.Unrolled.{props_out, recipients_out, attachments_out}
use Rattle.msg_tree.proofs.totals.count_own.Goals as goal

pub returns : goal.returns
returns g c =
    let props = ap length (props_out g.B.Blob.bytes c.args.message.now) in
    let recipients = recipients_out g.B.Blob.bytes c.args.message.now in
    let attachments = attachments_out g.B.Blob.bytes c.args.message.now in
    let theirs = ap (sum_by length) recipients in
    let below = ap (sum_by (λ (one : plain.Attached). length one.0)) attachments in
    let recipient_count = ap length recipients in
    let attachment_count = ap length attachments in
    record {
      of_messages = omega arith;
      of_recipients = omega (arith, recipient_count, c.len-2.ensures);
      of_attachments = omega (arith, attachment_count, c.len-3.ensures);
      of_properties = omega (arith, props, theirs, below, c.len.ensures, c.recipient_properties.ensures, c.saturating_add.ensures, c.attachment_properties.ensures, c.saturating_add-properties.ensures);
    }
