use Rattle.std.proofs.Common.{rules, arith, take, take_all, flat_map, ◌∷◌, ◌≡◌}
use Rattle.carrier_model.specs.Tree as plain
use Rattle.carrier_model.proofs.Messages.{messages_taken, messages_listed}
use Rattle.carrier_model.proofs.Trees.{depth_at_le}
use Rattle.msg_tree.specs.Meaning.{tree_of, list_of, attached_of}
use Rattle.msg_tree.specs.declared.messages.Message.{out-Message}
use Rattle.msg_tree.proofs.Added.{count_more}
use Rattle.msg_tree.proofs.Unrolled.{depth_out, messages_out}
use Rattle.msg_tree.proofs.totals.+totals.Goals as goal

pub count_message-count_attachment-requires : goal.count_message-count_attachment-requires
count_message-count_attachment-requires g t c κs within =
    let xs = list_of g.B.Blob.bytes (out-Message g.row.B.Denot c.args.message.now).attachments in
    let e = depth_out g.B.Blob.bytes c.args.message.now in
    let le = depth_at_le xs c.loop-k.k _ c.get.ensures in
    (omega (arith, e, le), search rules)

pub count_message-loop-k-preserved : goal.count_message-loop-k-preserved
count_message-loop-k-preserved g t c =
    let m = tree_of g.B.Blob.bytes c.args.message.now in
    let xs = list_of g.B.Blob.bytes (out-Message g.row.B.Denot c.args.message.now).attachments in
    let e = messages_taken xs c.loop-k.k _ c.get.ensures in
    rw e (count_more c.loop-k.totals c.count_attachment.result c.plus-totals.result (m ∷ flat_map plain.messages_at (take c.loop-k.k xs)) (plain.messages_at (attached_of g.B.Blob.bytes c.get.result.now)) c.loop-k.invariant c.count_attachment.ensures c.plus-totals.ensures.messages c.plus-totals.ensures.recipients c.plus-totals.ensures.attachments c.plus-totals.ensures.properties)

pub count_message-returns : goal.count_message-returns
count_message-returns g t c =
    let xs = list_of g.B.Blob.bytes (out-Message g.row.B.Denot c.args.message.now).attachments in
    let all : take c.loop-k.k xs ≡ xs = take_all c.loop-k.k xs (omega (arith, c.len-k-end.ensures, c.loop-k-test.false)) in
    rw (messages_out g.B.Blob.bytes c.args.message.now, messages_listed xs, ← all) c.loop-k.invariant
