use Rattle.std.proofs.Common.{rules, arith, sym, ◌∙◌, ap, length}
use Rattle.std.proofs.lemmas.Result.{err_from_is_err_and}
use Rattle.std.specs.Box.{with_value}
use Rattle.carrier_model.specs.Tree as plain
use Rattle.carrier_model.proofs.Trees.{depth_at_le}
use Rattle.msg_tree.specs.Meaning.{tree_of, list_of, attached_of}
use Rattle.msg_tree.specs.declared.messages.Message.{out-Message, roll-Message}
use Rattle.msg_tree.proofs.Unrolled.{tree_out}
use Rattle.text8_model.specs.Unicode.{bad_below, converted_in}
use Rattle.tree_text8.specs.Walks.{converted_attached, bad_attached, props_at}
use Rattle.tree_text8.proofs.Folds.{message_rolled, message_at, message_put}
use Rattle.tree_text8.proofs.InPlace.{next_there, next_made, made_length}
use Rattle.tree_text8.proofs.Steps.{walk_good, walk_end, walk_next, attached_cons, attached_same, held_good, held_end, whole_good, whole_attachments, whole_next, whole_recipients, whole_made}
use Rattle.tree_text8.proofs.Turns.{ok_then, err_then}
use Rattle.tree_text8.proofs.trees.+convert.Goals as goal

pub convert_attachment-returns-in-Message-clause-good : goal.convert_attachment-returns-in-Message-clause-good
convert_attachment-returns-in-Message-clause-good g t c =
    ok_then c.convert_message.result (λ h. rw (message_at g.C.Blob.bytes c.args.attachment.now c.in-Message.inner c.in-Message.is) (held_good c.args.code c.args.next.now c.convert_props.new.next c.args.attachment.now.props (tree_of g.C.Blob.bytes c.in-Message.inner.value) (tree_of g.C.Blob.bytes c.deref_mut.result.now) c.in_ok-convert_props.ensures.next (ap (tree_of g.C.Blob.bytes) c.deref_mut.ensures.value) c.in_ok-convert_props.ensures.good h)) c.convert_message.ensures.good

pub convert_attachment-returns-in-Message-clause-ok : goal.convert_attachment-returns-in-Message-clause-ok
convert_attachment-returns-in-Message-clause-ok g t c =
    ok_then c.convert_message.result (λ h.
    message_put g.C.Blob.bytes c.convert_props.new.props (with_value c.in-Message.inner c.convert_message.new.message)
    ∙ ((λ i. (c.in_ok-convert_props.ensures.ok i, plain.embedded ((h ∙ ap (λ m. converted_in c.args.code (tree_of g.C.Blob.bytes m)) c.deref_mut.ensures.value) i)))
    ∙ ap (converted_attached c.args.code) (sym (message_at g.C.Blob.bytes c.args.attachment.now c.in-Message.inner c.in-Message.is)))) c.convert_message.ensures.ok

pub convert_attachment-returns-in-Message-clause-end : goal.convert_attachment-returns-in-Message-clause-end
convert_attachment-returns-in-Message-clause-end g t c =
    err_then c.convert_message.result (λ e h. rw (message_at g.C.Blob.bytes c.args.attachment.now c.in-Message.inner c.in-Message.is) (held_end c.args.code c.args.next.now c.convert_props.new.next c.args.attachment.now.props (tree_of g.C.Blob.bytes c.in-Message.inner.value) (tree_of g.C.Blob.bytes c.deref_mut.result.now) c.in_ok-convert_props.ensures.next (ap (tree_of g.C.Blob.bytes) c.deref_mut.ensures.value) c.in_ok-convert_props.ensures.good e h)) c.convert_message.ensures.end

pub convert_attachments-convert_attachment-requires : goal.convert_attachments-convert_attachment-requires
convert_attachments-convert_attachment-requires g t c κs within =
    let xs = list_of g.C.Blob.bytes c.args.list.now in
    let x = attached_of g.C.Blob.bytes c.replace-held.result in
    let at = next_there (converted_attached c.args.code) xs c.loop-k.k x (list_of g.C.Blob.bytes c.loop-k.list) c.loop-k.invariant.made c.replace-held.ensures.taken in
    let le = depth_at_le xs c.loop-k.k x at in
    (omega (arith, le), search rules)

pub convert_attachments-returns-in_err-convert_attachment-clause-end : goal.convert_attachments-returns-in_err-convert_attachment-clause-end
convert_attachments-returns-in_err-convert_attachment-clause-end g t c =
    let p = err_from_is_err_and c.from_residual.result c.from_residual.ensures.1 in
    let code = c.args.code in
    let xs = list_of g.C.Blob.bytes c.args.list.now in
    let x = attached_of g.C.Blob.bytes c.replace-held.result in
    let at = next_there (converted_attached code) xs c.loop-k.k x (list_of g.C.Blob.bytes c.loop-k.list) c.loop-k.invariant.made c.replace-held.ensures.taken in
    rw (p.1, p.2) (walk_end (bad_attached code) props_at (λ n xs. bad_below code n (plain.attachments_from xs)) (attached_cons code) (attached_same code) xs c.args.next.now c.loop-k.k c.loop-k.next x at c.loop-k.invariant.next c.in_err-convert_attachment.field-0.0 c.in_err-convert_attachment.ensures.end c.loop-k.invariant.bad)

pub convert_attachments-loop-k-preserved : goal.convert_attachments-loop-k-preserved
convert_attachments-loop-k-preserved g t c =
    let code = c.args.code in
    let xs = list_of g.C.Blob.bytes c.args.list.now in
    let x = attached_of g.C.Blob.bytes c.replace-held.result in
    let all = list_of g.C.Blob.bytes c.loop-k.list in
    let at = next_there (converted_attached code) xs c.loop-k.k x all c.loop-k.invariant.made c.replace-held.ensures.taken in
    let made = next_made (converted_attached code) xs c.loop-k.k x (attached_of g.C.Blob.bytes c.convert_attachment.new.attachment) _ all _ (list_of g.C.Blob.bytes c.replace.new.self) c.loop-k.invariant.made c.replace-held.ensures.taken c.replace-held.ensures.put c.replace.ensures.put c.in_ok-convert_attachment.ensures.ok in
    record {
      made = made;
      long = ap length made ∙ made_length (converted_attached code) xs _;
      bad = walk_good (bad_attached code) props_at (λ n xs. bad_below code n (plain.attachments_from xs)) (attached_cons code) (attached_same code) xs c.args.next.now c.loop-k.k c.loop-k.next x at c.loop-k.invariant.next c.in_ok-convert_attachment.ensures.good c.loop-k.invariant.bad;
      next = walk_next (bad_attached code) props_at (λ n xs. bad_below code n (plain.attachments_from xs)) (attached_cons code) (attached_same code) xs c.args.next.now c.loop-k.k c.loop-k.next x at c.loop-k.invariant.next c.convert_attachment.new.next c.in_ok-convert_attachment.ensures.next;
    }

pub convert_message-returns-in_err-convert_recipients-clause-end : goal.convert_message-returns-in_err-convert_recipients-clause-end
unfolding out-Message roll-Message denote.Hole.Carrier.out denote.Hole.Carrier.roll
convert_message-returns-in_err-convert_recipients-clause-end g t c =
    let p = err_from_is_err_and c.from_residual-in_err-convert_recipients.result c.from_residual-in_err-convert_recipients.ensures.1 in
    let m = out-Message g.row.C.Denot c.args.message.now in
    rw (p.1, p.2, tree_out g.C.Blob.bytes c.args.message.now) (whole_recipients c.args.outer c.page_in-code.result c.args.next.now c.convert_props.new.next m.props m.recipients (list_of g.C.Blob.bytes m.attachments) c.page_in-code.ensures c.in_ok-convert_props.ensures.next c.in_ok-convert_props.ensures.good c.in_err-convert_recipients.field-0.0 c.in_err-convert_recipients.ensures.end)

pub convert_message-returns-clause-good : goal.convert_message-returns-clause-good
unfolding out-Message roll-Message denote.Hole.Carrier.out denote.Hole.Carrier.roll
convert_message-returns-clause-good g t c =
    let m = out-Message g.row.C.Denot c.args.message.now in
    ok_then c.convert_attachments.result (λ h. rw (tree_out g.C.Blob.bytes c.args.message.now) (whole_good c.args.outer c.page_in-code.result c.args.next.now c.convert_props.new.next c.convert_recipients.new.next m.props m.recipients (list_of g.C.Blob.bytes m.attachments) c.page_in-code.ensures c.in_ok-convert_props.ensures.next c.in_ok-convert_recipients.ensures.next c.in_ok-convert_props.ensures.good c.in_ok-convert_recipients.ensures.good h)) c.convert_attachments.ensures.good

pub convert_message-returns-clause-ok : goal.convert_message-returns-clause-ok
unfolding out-Message roll-Message denote.Hole.Carrier.out denote.Hole.Carrier.roll
convert_message-returns-clause-ok g t c =
    let m = out-Message g.row.C.Denot c.args.message.now in
    ok_then c.convert_attachments.result (λ h.
    message_rolled g.C.Blob.bytes _
    ∙ (whole_made c.args.outer c.page_in-code.result m.props c.convert_props.new.props m.recipients c.convert_recipients.new.recipients (list_of g.C.Blob.bytes m.attachments) (list_of g.C.Blob.bytes c.convert_attachments.new.list) c.page_in-code.ensures c.in_ok-convert_props.ensures.ok c.in_ok-convert_recipients.ensures.ok h
    ∙ ap (converted_in c.args.outer) (sym (tree_out g.C.Blob.bytes c.args.message.now)))) c.convert_attachments.ensures.ok

pub convert_message-returns-clause-next : goal.convert_message-returns-clause-next
unfolding out-Message roll-Message denote.Hole.Carrier.out denote.Hole.Carrier.roll
convert_message-returns-clause-next g t c =
    let m = out-Message g.row.C.Denot c.args.message.now in
    ok_then c.convert_attachments.result (λ h. rw (tree_out g.C.Blob.bytes c.args.message.now) (whole_next c.args.next.now c.convert_props.new.next c.convert_recipients.new.next c.convert_attachments.new.next m.props m.recipients (list_of g.C.Blob.bytes m.attachments) c.in_ok-convert_props.ensures.next c.in_ok-convert_recipients.ensures.next h)) c.convert_attachments.ensures.next

pub convert_message-returns-clause-end : goal.convert_message-returns-clause-end
unfolding out-Message roll-Message denote.Hole.Carrier.out denote.Hole.Carrier.roll
convert_message-returns-clause-end g t c =
    let m = out-Message g.row.C.Denot c.args.message.now in
    err_then c.convert_attachments.result (λ e h. rw (tree_out g.C.Blob.bytes c.args.message.now) (whole_attachments c.args.outer c.page_in-code.result c.args.next.now c.convert_props.new.next c.convert_recipients.new.next m.props m.recipients (list_of g.C.Blob.bytes m.attachments) c.page_in-code.ensures c.in_ok-convert_props.ensures.next c.in_ok-convert_recipients.ensures.next c.in_ok-convert_props.ensures.good c.in_ok-convert_recipients.ensures.good e h)) c.convert_attachments.ensures.end
