use Rattle.std.proofs.Common.{◌∙◌, sym, ap, arith, length, Some}
use Rattle.carrier_model.specs.Limits.{too_many_attachments}
use Rattle.carrier_model.proofs.Messages.{own_none, own_attachments}
use Rattle.msg_tree.specs.Meaning.{tree_of}
use Rattle.msg_tree.proofs.Unrolled.{recipients_out, attachments_out}
use Rattle.msg_tree.proofs.target_limits.own_passed.Goals as goal

pub returns-then-attachments-gt-GREATEST_ATTACHMENTS : goal.returns-then-attachments-gt-GREATEST_ATTACHMENTS
returns-then-attachments-gt-GREATEST_ATTACHMENTS g c =
    let m = tree_of g.B.Blob.bytes c.args.message.now in
    let r = ap length (recipients_out g.B.Blob.bytes c.args.message.now) in
    let a = c.len-attachments.ensures ∙ sym (ap length (attachments_out g.B.Blob.bytes c.args.message.now)) in
    ap (λ n. Some (too_many_attachments n)) a ∙ sym (own_attachments m (omega (arith, r, c.len-recipients.ensures, c.if-recipients-gt-GREATEST_RECIPIENTS.false)) (omega (arith, a, c.if-attachments-gt-GREATEST_ATTACHMENTS.true)))

pub returns : goal.returns
returns g c =
    let m = tree_of g.B.Blob.bytes c.args.message.now in
    let r = ap length (recipients_out g.B.Blob.bytes c.args.message.now) in
    let a = c.len-attachments.ensures ∙ sym (ap length (attachments_out g.B.Blob.bytes c.args.message.now)) in
    sym (own_none m (omega (arith, r, c.len-recipients.ensures, c.if-recipients-gt-GREATEST_RECIPIENTS.false)) (omega (arith, a, c.if-attachments-gt-GREATEST_ATTACHMENTS.false)))
