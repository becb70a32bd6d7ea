use Rattle.std.proofs.Common.{◌≡◌, ◌∙◌, ap, sym, subst, rules, arith}
use Rattle.carrier_model.proofs.Trees.{depth_at_le}
use Rattle.carrier_model.specs.Tree.{Attached, attachments_from, embedded}
use Rattle.json_model.specs.MessageForms.{json_of, attachment_json}
use Rattle.json_writer.proofs.Counted.{andthen, failing, counts_as}
use Rattle.msg_tree.proofs.Unrolled.{tree_out, attached_out}
use Rattle.msg_tree.specs.declared.messages.Message.{out-Message}
use Rattle.msg_tree.specs.declared.messages.Attachment.{out-Attachment}
use Rattle.msg_tree.specs.Meaning.{tree_of, list_of, body_of}
use Rattle.serde_json.specs.Data.{array}
use Rattle.serde_json.specs.Written.{compact_text}
use Rattle.tree_json.specs.Bodies.{before_properties}
use Rattle.tree_json.specs.Wholes.{AttachedIsWhole, IsWhole}
use Rattle.tree_json.proofs.Bodies.{message_made}
use Rattle.tree_json.proofs.Lists.{listed_first, listed_init, listed_comma, listed_stops, listed_more, listed_ends}
use Rattle.tree_json.proofs.Objects.{message_text, attachment_text}
use Rattle.tree_json.proofs.Walks.{attachments_listed}
use Rattle.tree_json.proofs.Wholes.{on_ok, whole_more, whole_all, attachments_whole, body_whole}
use Rattle.tree_json.proofs.write_messages.+telling.Goals as goal

pub write_attachments-returns-in_err-append-clause-json : goal.write_attachments-returns-in_err-append-clause-json
write_attachments-returns-in_err-append-clause-json g t c = listed_first attachment_json (list_of g.B.Blob.bytes c.args.list.now) c.from_residual.ensures.0 c.in_err-append.ensures

pub write_attachments-loop-k-init : goal.write_attachments-loop-k-init
write_attachments-loop-k-init g t c = (listed_init attachment_json (list_of g.B.Blob.bytes c.args.list.now) c.in_ok-append.ensures, tt)

pub write_attachments-returns-in_err-append-2-clause-json : goal.write_attachments-returns-in_err-append-2-clause-json
write_attachments-returns-in_err-append-2-clause-json g t c = listed_comma attachment_json (list_of g.B.Blob.bytes c.args.list.now) c.loop-k.k (omega (arith, c.loop-k-test.true, c.len-k-end.ensures)) c.from_residual-in_err-append-2.ensures.0 c.loop-k.invariant.0 (rw c.separator.ensures at c.in_err-append-2.ensures)

pub write_attachments-returns-in_err-write_attachment-clause-json : goal.write_attachments-returns-in_err-write_attachment-clause-json
write_attachments-returns-in_err-write_attachment-clause-json g t c = listed_stops attachment_json (list_of g.B.Blob.bytes c.args.list.now) c.loop-k.k _ c.get.ensures c.from_residual-in_err-write_attachment.ensures.0 c.loop-k.invariant.0 (rw c.separator.ensures at c.in_ok-append-2.ensures) c.in_err-write_attachment.ensures.json

pub write_attachments-loop-k-preserved : goal.write_attachments-loop-k-preserved
write_attachments-loop-k-preserved g t c = (
  listed_more attachment_json (list_of g.B.Blob.bytes c.args.list.now) c.loop-k.k _ c.get.ensures c.loop-k.invariant.0 (rw c.separator.ensures at c.in_ok-append-2.ensures) c.in_ok-write_attachment.ensures.json,
  whole_more AttachedIsWhole _ _ _ c.loop-k.invariant.1 c.get.ensures c.in_ok-write_attachment.ensures.whole,
)

pub write_attachments-returns-clause-json : goal.write_attachments-returns-clause-json
write_attachments-returns-clause-json g t c = listed_ends attachment_json (list_of g.B.Blob.bytes c.args.list.now) c.loop-k.k (omega (arith, c.loop-k-test.false, c.len-k-end.ensures)) c.loop-k.invariant.0 c.append-2.ensures

pub write_attachments-returns-clause-whole : goal.write_attachments-returns-clause-whole
write_attachments-returns-clause-whole g t c = on_ok c.append-2.result (whole_all AttachedIsWhole _ _ c.loop-k.invariant.1 (omega (arith, c.loop-k-test.false, c.len-k-end.ensures)))

pub write_attachments-write_attachment-requires : goal.write_attachments-write_attachment-requires
write_attachments-write_attachment-requires g t c κs within =
    let le = depth_at_le (list_of g.B.Blob.bytes c.args.list.now) c.loop-k.k _ c.get.ensures in
    (omega (arith, le), search rules)

pub write_message-returns-in_err-append-clause-json : goal.write_message-returns-in_err-append-clause-json
write_message-returns-in_err-append-clause-json g t c =
    let m = c.args.message.now in
    let r = out-Message g.row.B.Denot m in
    let xs = list_of g.B.Blob.bytes r.attachments in
    counts_as _ (message_text r.props r.recipients (attachments_from xs) ∙ ap (λ w. compact_text (json_of w)) (sym (tree_out g.B.Blob.bytes m))) (failing _ c.from_residual.ensures.0 c.in_err-append.ensures)

pub write_message-returns-in_err-write_attachments-clause-json : goal.write_message-returns-in_err-write_attachments-clause-json
write_message-returns-in_err-write_attachments-clause-json g t c =
    let m = c.args.message.now in
    let r = out-Message g.row.B.Denot m in
    let xs = list_of g.B.Blob.bytes r.attachments in
    counts_as _ (message_text r.props r.recipients (attachments_from xs) ∙ ap (λ w. compact_text (json_of w)) (sym (tree_out g.B.Blob.bytes m))) (andthen c.in_ok-append.ensures (failing _ c.from_residual-in_err-write_attachments.ensures.0 (counts_as _ (ap (λ l. compact_text (array l)) (sym (attachments_listed xs))) c.in_err-write_attachments.ensures.json)))

pub write_message-returns-in_err-append-2-clause-json : goal.write_message-returns-in_err-append-2-clause-json
write_message-returns-in_err-append-2-clause-json g t c =
    let m = c.args.message.now in
    let r = out-Message g.row.B.Denot m in
    let xs = list_of g.B.Blob.bytes r.attachments in
    counts_as _ (message_text r.props r.recipients (attachments_from xs) ∙ ap (λ w. compact_text (json_of w)) (sym (tree_out g.B.Blob.bytes m))) (andthen c.in_ok-append.ensures (andthen (counts_as _ (ap (λ l. compact_text (array l)) (sym (attachments_listed xs))) c.in_ok-write_attachments.ensures.json) (failing _ c.from_residual-in_err-append-2.ensures.0 c.in_err-append-2.ensures)))

pub write_message-returns-in_err-write_props-clause-json : goal.write_message-returns-in_err-write_props-clause-json
write_message-returns-in_err-write_props-clause-json g t c =
    let m = c.args.message.now in
    let r = out-Message g.row.B.Denot m in
    let xs = list_of g.B.Blob.bytes r.attachments in
    counts_as _ (message_text r.props r.recipients (attachments_from xs) ∙ ap (λ w. compact_text (json_of w)) (sym (tree_out g.B.Blob.bytes m))) (andthen c.in_ok-append.ensures (andthen (counts_as _ (ap (λ l. compact_text (array l)) (sym (attachments_listed xs))) c.in_ok-write_attachments.ensures.json) (andthen c.in_ok-append-2.ensures (failing _ c.from_residual-in_err-write_props.ensures.0 c.in_err-write_props.ensures.json))))

pub write_message-returns-in_err-append-3-clause-json : goal.write_message-returns-in_err-append-3-clause-json
write_message-returns-in_err-append-3-clause-json g t c =
    let m = c.args.message.now in
    let r = out-Message g.row.B.Denot m in
    let xs = list_of g.B.Blob.bytes r.attachments in
    counts_as _ (message_text r.props r.recipients (attachments_from xs) ∙ ap (λ w. compact_text (json_of w)) (sym (tree_out g.B.Blob.bytes m))) (andthen c.in_ok-append.ensures (andthen (counts_as _ (ap (λ l. compact_text (array l)) (sym (attachments_listed xs))) c.in_ok-write_attachments.ensures.json) (andthen c.in_ok-append-2.ensures (andthen c.in_ok-write_props.ensures.json (failing _ c.from_residual-in_err-append-3.ensures.0 c.in_err-append-3.ensures)))))

pub write_message-returns-in_err-write_recipients-clause-json : goal.write_message-returns-in_err-write_recipients-clause-json
write_message-returns-in_err-write_recipients-clause-json g t c =
    let m = c.args.message.now in
    let r = out-Message g.row.B.Denot m in
    let xs = list_of g.B.Blob.bytes r.attachments in
    counts_as _ (message_text r.props r.recipients (attachments_from xs) ∙ ap (λ w. compact_text (json_of w)) (sym (tree_out g.B.Blob.bytes m))) (andthen c.in_ok-append.ensures (andthen (counts_as _ (ap (λ l. compact_text (array l)) (sym (attachments_listed xs))) c.in_ok-write_attachments.ensures.json) (andthen c.in_ok-append-2.ensures (andthen c.in_ok-write_props.ensures.json (andthen c.in_ok-append-3.ensures (failing _ c.from_residual-in_err-write_recipients.ensures.0 c.in_err-write_recipients.ensures.json))))))

pub write_message-returns-clause-json : goal.write_message-returns-clause-json
write_message-returns-clause-json g t c =
    let m = c.args.message.now in
    let r = out-Message g.row.B.Denot m in
    let xs = list_of g.B.Blob.bytes r.attachments in
    counts_as _ (message_text r.props r.recipients (attachments_from xs) ∙ ap (λ w. compact_text (json_of w)) (sym (tree_out g.B.Blob.bytes m))) (andthen c.in_ok-append.ensures (andthen (counts_as _ (ap (λ l. compact_text (array l)) (sym (attachments_listed xs))) c.in_ok-write_attachments.ensures.json) (andthen c.in_ok-append-2.ensures (andthen c.in_ok-write_props.ensures.json (andthen c.in_ok-append-3.ensures (andthen c.in_ok-write_recipients.ensures.json c.append-4.ensures))))))

pub write_message-returns-clause-whole : goal.write_message-returns-clause-whole
write_message-returns-clause-whole g t c =
    let m = c.args.message.now in
    let r = out-Message g.row.B.Denot m in
    let xs = list_of g.B.Blob.bytes r.attachments in
    on_ok c.append-4.result (subst IsWhole (sym (tree_out g.B.Blob.bytes m)) (c.in_ok-write_props.ensures.whole, c.in_ok-write_recipients.ensures.whole, attachments_whole xs c.in_ok-write_attachments.ensures.whole))

pub write_attachment-returns-in_err-append-clause-json : goal.write_attachment-returns-in_err-append-clause-json
write_attachment-returns-in_err-append-clause-json g t c =
    let a = c.args.attachment.now in
    let r = out-Attachment g.row.B.Denot a in
    counts_as _ (attachment_text r.props (body_of g.B.Blob.bytes r.body) ∙ ap (λ (one : Attached). compact_text (attachment_json one)) (sym (attached_out g.B.Blob.bytes a))) (failing _ c.from_residual.ensures.0 c.in_err-append.ensures)

pub write_attachment-returns-in_err-write_embedded-clause-json : goal.write_attachment-returns-in_err-write_embedded-clause-json
write_attachment-returns-in_err-write_embedded-clause-json g t c =
    let a = c.args.attachment.now in
    let r = out-Attachment g.row.B.Denot a in
    counts_as _ (attachment_text r.props (body_of g.B.Blob.bytes r.body) ∙ ap (λ (one : Attached). compact_text (attachment_json one)) (sym (attached_out g.B.Blob.bytes a))) (andthen c.in_ok-append.ensures (failing _ c.from_residual-in_err-write_embedded.ensures.0 c.in_err-write_embedded.ensures.json))

pub write_attachment-returns-in_err-append-2-clause-json : goal.write_attachment-returns-in_err-append-2-clause-json
write_attachment-returns-in_err-append-2-clause-json g t c =
    let a = c.args.attachment.now in
    let r = out-Attachment g.row.B.Denot a in
    counts_as _ (attachment_text r.props (body_of g.B.Blob.bytes r.body) ∙ ap (λ (one : Attached). compact_text (attachment_json one)) (sym (attached_out g.B.Blob.bytes a))) (andthen c.in_ok-append.ensures (andthen c.in_ok-write_embedded.ensures.json (failing _ c.from_residual-in_err-append-2.ensures.0 c.in_err-append-2.ensures)))

pub write_attachment-returns-in_err-write_props-clause-json : goal.write_attachment-returns-in_err-write_props-clause-json
write_attachment-returns-in_err-write_props-clause-json g t c =
    let a = c.args.attachment.now in
    let r = out-Attachment g.row.B.Denot a in
    counts_as _ (attachment_text r.props (body_of g.B.Blob.bytes r.body) ∙ ap (λ (one : Attached). compact_text (attachment_json one)) (sym (attached_out g.B.Blob.bytes a))) (andthen c.in_ok-append.ensures (andthen c.in_ok-write_embedded.ensures.json (andthen c.in_ok-append-2.ensures (failing _ c.from_residual-in_err-write_props.ensures.0 c.in_err-write_props.ensures.json))))

pub write_attachment-returns-in_err-write_stored-clause-json : goal.write_attachment-returns-in_err-write_stored-clause-json
write_attachment-returns-in_err-write_stored-clause-json g t c =
    let a = c.args.attachment.now in
    let r = out-Attachment g.row.B.Denot a in
    counts_as _ (attachment_text r.props (body_of g.B.Blob.bytes r.body) ∙ ap (λ (one : Attached). compact_text (attachment_json one)) (sym (attached_out g.B.Blob.bytes a))) (andthen c.in_ok-append.ensures (andthen c.in_ok-write_embedded.ensures.json (andthen c.in_ok-append-2.ensures (andthen c.in_ok-write_props.ensures.json (failing _ c.from_residual-in_err-write_stored.ensures.0 c.in_err-write_stored.ensures.json)))))

pub write_attachment-returns-clause-json : goal.write_attachment-returns-clause-json
write_attachment-returns-clause-json g t c =
    let a = c.args.attachment.now in
    let r = out-Attachment g.row.B.Denot a in
    counts_as _ (attachment_text r.props (body_of g.B.Blob.bytes r.body) ∙ ap (λ (one : Attached). compact_text (attachment_json one)) (sym (attached_out g.B.Blob.bytes a))) (andthen c.in_ok-append.ensures (andthen c.in_ok-write_embedded.ensures.json (andthen c.in_ok-append-2.ensures (andthen c.in_ok-write_props.ensures.json (andthen c.in_ok-write_stored.ensures.json c.append-3.ensures)))))

pub write_attachment-returns-clause-whole : goal.write_attachment-returns-clause-whole
write_attachment-returns-clause-whole g t c =
    let a = c.args.attachment.now in
    let r = out-Attachment g.row.B.Denot a in
    on_ok c.append-3.result (subst AttachedIsWhole (sym (attached_out g.B.Blob.bytes a)) (c.in_ok-write_props.ensures.whole, body_whole (body_of g.B.Blob.bytes r.body) c.in_ok-write_embedded.ensures.whole c.in_ok-write_stored.ensures.whole))

pub write_embedded-returns-in_err-append-in-Message-clause-json : goal.write_embedded-returns-in_err-append-in-Message-clause-json
write_embedded-returns-in_err-append-in-Message-clause-json g t c =
    let u = tree_of g.B.Blob.bytes c.in-Message.inner.value in
    let known : body_of g.B.Blob.bytes c.args.body.now ≡ embedded u = ap (body_of g.B.Blob.bytes) c.in-Message.is ∙ message_made g.B.Blob.bytes c.in-Message.inner in
    counts_as _ (ap before_properties (sym known)) (failing _ c.from_residual.ensures.0 c.in_err-append-in-Message.ensures)

pub write_embedded-returns-in_err-write_message-in-Message-clause-json : goal.write_embedded-returns-in_err-write_message-in-Message-clause-json
write_embedded-returns-in_err-write_message-in-Message-clause-json g t c =
    let u = tree_of g.B.Blob.bytes c.in-Message.inner.value in
    let known : body_of g.B.Blob.bytes c.args.body.now ≡ embedded u = ap (body_of g.B.Blob.bytes) c.in-Message.is ∙ message_made g.B.Blob.bytes c.in-Message.inner in
    counts_as _ (ap before_properties (sym known)) (andthen c.in_ok-append-in-Message.ensures (failing _ c.from_residual-in_err-write_message-in-Message.ensures.0 (rw c.deref.ensures at c.in_err-write_message-in-Message.ensures.json)))

pub write_embedded-returns-in_ok-write_message-in-Message-clause-json : goal.write_embedded-returns-in_ok-write_message-in-Message-clause-json
write_embedded-returns-in_ok-write_message-in-Message-clause-json g t c =
    let u = tree_of g.B.Blob.bytes c.in-Message.inner.value in
    let known : body_of g.B.Blob.bytes c.args.body.now ≡ embedded u = ap (body_of g.B.Blob.bytes) c.in-Message.is ∙ message_made g.B.Blob.bytes c.in-Message.inner in
    counts_as _ (ap before_properties (sym known)) (andthen c.in_ok-append-in-Message.ensures (andthen (rw c.deref.ensures at c.in_ok-write_message-in-Message.ensures.json) c.append-in-Message.ensures))
