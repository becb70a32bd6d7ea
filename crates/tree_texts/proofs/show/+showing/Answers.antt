use Rattle.std.proofs.Common.{◌≤◌, ◌+◌, ◌++◌, length, arith, ap, sym, ◌∙◌}
use Rattle.std.proofs.lemmas.List.{append-nil}
use Rattle.carrier_model.specs.Tree as plain
use Rattle.carrier_model.proofs.Trees.{depth_at_le}
use Rattle.carrier_io.proofs.Known.{andthen, failing}
use Rattle.text_model.specs.TreeTexts.{body_lines, prop_lines}
use Rattle.msg_tree.specs.Meaning.{list_of, attached_of}
use Rattle.msg_tree.specs.declared.messages.Message.{out-Message}
use Rattle.tree_texts.proofs.Bodies.{attached_props, depth_out, message_body, message_whole, next_attachment, no_attachment, plain_body, store_body}
use Rattle.tree_texts.proofs.Partly.{partly_ends, partly_more, partly_start, partly_stops, writes_as}
use Rattle.tree_texts.proofs.show.+showing.Goals as goal

pub write_message-returns-in_err-write_own : goal.write_message-returns-in_err-write_own
write_message-returns-in_err-write_own g t c = partly_stops _ _ (message_whole g.B.Blob.bytes c.args.indent c.args.message.now) c.from_residual.ensures.0 (partly_start _ _ _) c.in_err-write_own.ensures

pub write_message-loop-k-init : goal.write_message-loop-k-init
write_message-loop-k-init g t c = partly_more _ _ (message_whole g.B.Blob.bytes c.args.indent c.args.message.now) (partly_start _ _ _) c.in_ok-write_own.ensures

pub write_message-write_attachment-requires : goal.write_message-write_attachment-requires
write_message-write_attachment-requires g t c κs within =
    let xs = list_of g.B.Blob.bytes (out-Message g.row.B.Denot c.args.message.now).attachments in
    let e = depth_out g.B.Blob.bytes c.args.message.now in
    let le = depth_at_le xs c.loop-k.k _ c.get.ensures in
    (omega (arith, e, le), (within.0, (within.1, omega (arith, e, le, c.requires))))

pub write_message-returns-in_err-write_attachment : goal.write_message-returns-in_err-write_attachment
write_message-returns-in_err-write_attachment g t c =
    let xs = list_of g.B.Blob.bytes (out-Message g.row.B.Denot c.args.message.now).attachments in
    partly_stops _ _ (next_attachment (c.args.indent + 2) xs c.loop-k.k _ c.get.ensures) c.from_residual-in_err-write_attachment.ensures.0 c.loop-k.invariant c.in_err-write_attachment.ensures

pub write_message-loop-k-preserved : goal.write_message-loop-k-preserved
write_message-loop-k-preserved g t c =
    let xs = list_of g.B.Blob.bytes (out-Message g.row.B.Denot c.args.message.now).attachments in
    partly_more _ _ (next_attachment (c.args.indent + 2) xs c.loop-k.k _ c.get.ensures) c.loop-k.invariant c.in_ok-write_attachment.ensures

pub write_message-returns : goal.write_message-returns
write_message-returns g t c =
    let xs = list_of g.B.Blob.bytes (out-Message g.row.B.Denot c.args.message.now).attachments in
    let le : length xs ≤ c.loop-k.k = omega (arith, c.loop-k-test.false, c.len-k-end.ensures) in
    partly_ends (no_attachment (c.args.indent + 2) xs c.loop-k.k le) c.loop-k.invariant

-- ---- an attachment

pub write_attachment-write_message-requires : goal.write_attachment-write_message-requires
write_attachment-write_message-requires g t c κs within =
    let e = message_body g.B.Blob.bytes c.args.attachment.now c.in-Message.inner c.in-Message.is in
    rw c.deref.ensures (omega (arith, ap plain.depth_of_body e), (within.0, (within.1, omega (arith, ap plain.depth_of_body e, c.requires))))

pub write_attachment-returns-in_err-write_counted_line : goal.write_attachment-returns-in_err-write_counted_line
write_attachment-returns-in_err-write_counted_line g t c =
    let x = attached_of g.B.Blob.bytes c.args.attachment.now in
    failing (prop_lines (c.args.indent + 2) x.0 ++ body_lines (c.args.indent + 2) x.1) c.from_residual.ensures.0 c.in_err-write_counted_line.ensures

pub write_attachment-returns-in_err-write_props : goal.write_attachment-returns-in_err-write_props
write_attachment-returns-in_err-write_props g t c =
    let x = attached_of g.B.Blob.bytes c.args.attachment.now in
    let e = attached_props g.B.Blob.bytes c.args.attachment.now in
    andthen c.in_ok-write_counted_line.ensures (failing (body_lines (c.args.indent + 2) x.1) c.from_residual-in_err-write_props.ensures.0 (writes_as _ (ap (prop_lines (c.args.indent + 2)) (sym e)) c.in_err-write_props.ensures))

pub write_attachment-returns-in-Plain : goal.write_attachment-returns-in-Plain
write_attachment-returns-in-Plain g t c =
    let x = attached_of g.B.Blob.bytes c.args.attachment.now in
    let e = attached_props g.B.Blob.bytes c.args.attachment.now in
    let b = plain_body g.B.Blob.bytes c.args.attachment.now c.in-Plain.is in
    let own = prop_lines (c.args.indent + 2) x.0 in
    let whole = sym (append-nil own) ∙ ap (λ y. own ++ body_lines (c.args.indent + 2) y) (sym b) in
    andthen c.in_ok-write_counted_line.ensures (writes_as _ (ap (prop_lines (c.args.indent + 2)) (sym e) ∙ whole) c.in_ok-write_props.ensures)

pub write_attachment-returns-in-Message : goal.write_attachment-returns-in-Message
write_attachment-returns-in-Message g t c =
    let e = attached_props g.B.Blob.bytes c.args.attachment.now in
    let b = message_body g.B.Blob.bytes c.args.attachment.now c.in-Message.inner c.in-Message.is in
    let inner = rw c.deref.ensures at c.write_message.ensures in
    andthen c.in_ok-write_counted_line.ensures (andthen (writes_as _ (ap (prop_lines (c.args.indent + 2)) (sym e)) c.in_ok-write_props.ensures) (writes_as _ (ap (body_lines (c.args.indent + 2)) (sym b)) inner))

pub write_attachment-returns-in-Store : goal.write_attachment-returns-in-Store
write_attachment-returns-in-Store g t c =
    let e = attached_props g.B.Blob.bytes c.args.attachment.now in
    let b = store_body g.B.Blob.bytes c.args.attachment.now c.in-Store.store c.in-Store.is in
    andthen c.in_ok-write_counted_line.ensures (andthen (writes_as _ (ap (prop_lines (c.args.indent + 2)) (sym e)) c.in_ok-write_props.ensures) (writes_as _ (ap (body_lines (c.args.indent + 2)) (sym b)) c.write_store.ensures))
