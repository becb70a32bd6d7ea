use Rattle.std.proofs.Common.{◌≡◌, None, ap, arith, false, length, subst, sym, take, take_all, ◌∙◌}
use Rattle.std.specs.Prelude.{OnOk}
use Rattle.carrier_model.specs.FileTrees.{FileTree, and_files, NO_CLASS}
use Rattle.carrier_model.specs.Tree as plain
use Rattle.carrier_model.specs.Tree.{attachments_from, depth_of_body}
use Rattle.carrier_model.proofs.Trees.{depth_at_le}
use Rattle.msg_model.specs.ReadBack.{BodyHasFewParts}
use Rattle.msg_model.specs.StreamNames.{value_name}
use Rattle.msg_model.specs.WrittenMsg.{OBJECT_TAG, attachment_files, body_files, head_of, list_files, message_files, recipient_files}
use Rattle.msg_nameid.specs.Maps.{names_in}
use Rattle.msg_props.specs.Heads.{head_bytes}
use Rattle.msg_storage.specs.Written.{Adds, attachment_tree, is_top}
use Rattle.msg_storage.proofs.Adding.{adds_two, adds_within, attachment_few, attachment_known, attachment_stores, attachments_taken, told_storage}
use Rattle.msg_storage.proofs.Bodies.{message_made}
use Rattle.msg_storage.proofs.Parts.{attachment_named, below_named, body_is, body_named, depth_below, few_attachments, few_below, files_told, recipients_named, stores_below}
use Rattle.msg_tree.specs.Keeping.{BodyHasStores}
use Rattle.msg_tree.specs.Meaning.{attached_of, body_of, list_of, tree_of}
use Rattle.msg_tree.specs.declared.messages.Attachment.{out-Attachment}
use Rattle.msg_tree.specs.declared.messages.Message.{out-Message}
use Rattle.msg_storage.proofs.writing.+adding.Goals as goal

pub add_attached-add_props-requires-clause-named : goal.add_attached-add_props-requires-clause-named
add_attached-add_props-requires-clause-named g t c = attachment_named g.B.Blob.bytes c.args.attachment.now (names_in c.args.names.now) c.requires.known

pub add_attached-add_body-requires : goal.add_attached-add_body-requires
add_attached-add_body-requires g t c κs within =
    let e = body_is g.B.Blob.bytes c.args.attachment.now in
    let le = ap depth_of_body e in
    let listed : FileTree = list_files (names_in c.args.names.now) (head_bytes c.small_head-head.result) (out-Attachment g.row.B.Denot c.args.attachment.now).props c.word_of-word.result in
    let inside = adds_within c.grown_lists_are_trees.ensures.count c.args.files.now c.add_props.new.files c.args.at listed c.in_ok-add_props.ensures c.requires.at in
    (omega (arith, le), (within, (inside, (c.requires.assigned, (body_named g.B.Blob.bytes c.args.attachment.now (names_in c.args.names.now) c.requires.known, (subst BodyHasFewParts e c.requires.parts, subst BodyHasStores e c.requires.stores))))))

pub add_message-add_recipients-requires-clause-known : goal.add_message-add_recipients-requires-clause-known
add_message-add_recipients-requires-clause-known g t c = recipients_named g.B.Blob.bytes c.args.message.now (names_in c.args.names.now) c.requires.known

pub add_message-overflow_cast-k : goal.add_message-overflow_cast-k
add_message-overflow_cast-k g t c = omega (arith, c.loop-k-test.true, c.len-k-end.ensures, few_attachments g.B.Blob.bytes c.args.message.now c.requires.parts)

pub add_message-add_attachment-requires : goal.add_message-add_attachment-requires
add_message-add_attachment-requires g t c κs within =
    let m = c.args.message.now in
    let names = names_in c.args.names.now in
    let xs = list_of g.B.Blob.bytes (out-Message g.row.B.Denot m).attachments in
    let k = c.loop-k.k in
    let x = attached_of g.B.Blob.bytes c.get.result.now in
    let count = c.grown_lists_are_trees.ensures.count in
    let u = tree_of g.B.Blob.bytes m in
    let own : FileTree = list_files names (head_of (is_top c.args.part) (length (plain.recipients_of u)) (length (plain.attachments_of u))) (plain.props_of u) None in
    let theirs : FileTree = recipient_files names 0 (out-Message g.row.B.Denot m).recipients in
    let listed = adds_within count c.args.files.now c.add_list.new.files c.args.at own c.in_ok-add_list.ensures c.requires.at in
    let rows = adds_within count c.add_list.new.files c.add_recipients.new.files c.args.at theirs c.in_ok-add_recipients.ensures listed in
    let inside = adds_within count c.add_recipients.new.files c.loop-k.files c.args.at (attachment_files names 0 (attachments_from (take k xs))) c.loop-k.invariant rows in
    let le = depth_at_le xs k x c.get.ensures in (
      omega (arith, le, depth_below g.B.Blob.bytes m),
      (
        within,
        (
          inside,
          (
            c.requires.assigned,
            (
              attachment_known names xs k x c.get.ensures (below_named g.B.Blob.bytes m names c.requires.known),
              (attachment_few xs k x c.get.ensures (few_below g.B.Blob.bytes m c.requires.parts), attachment_stores xs k x c.get.ensures (stores_below g.B.Blob.bytes m c.requires.stores)),
            ),
          ),
        ),
      ),
    )

pub add_message-loop-k-preserved : goal.add_message-loop-k-preserved
add_message-loop-k-preserved g t c =
    let names = names_in c.args.names.now in
    let xs = list_of g.B.Blob.bytes (out-Message g.row.B.Denot c.args.message.now).attachments in
    let k = c.loop-k.k in
    let x = attached_of g.B.Blob.bytes c.get.result.now in
    subst (λ (f : FileTree). Adds c.add_recipients.new.files c.add_attachment.new.files c.args.at f) (attachments_taken names xs k x c.get.ensures)
    (adds_two c.grown_lists_are_trees.ensures.steps c.add_recipients.new.files c.loop-k.files c.add_attachment.new.files c.args.at (attachment_files names 0 (attachments_from (take k xs))) (attachment_tree names k x) c.loop-k.invariant c.in_ok-add_attachment.ensures)

pub add_message-returns : goal.add_message-returns
add_message-returns g t c =
    let m = c.args.message.now in
    let names = names_in c.args.names.now in
    let u = tree_of g.B.Blob.bytes m in
    let xs = list_of g.B.Blob.bytes (out-Message g.row.B.Denot m).attachments in
    let steps = c.grown_lists_are_trees.ensures.steps in
    let own : FileTree = list_files names (head_of (is_top c.args.part) (length (plain.recipients_of u)) (length (plain.attachments_of u))) (plain.props_of u) None in
    let rows : FileTree = recipient_files names 0 (out-Message g.row.B.Denot m).recipients in
    let pieces : FileTree = attachment_files names 0 (attachments_from xs) in
    let all : take c.loop-k.k xs ≡ xs = take_all c.loop-k.k xs (omega (arith, c.len-k-end.ensures, c.loop-k-test.false)) in
    let last : Adds c.add_recipients.new.files c.loop-k.files c.args.at pieces = subst (λ z. Adds c.add_recipients.new.files c.loop-k.files c.args.at (attachment_files names 0 (attachments_from z))) all c.loop-k.invariant in
    subst (λ (f : FileTree). Adds c.args.files.now c.loop-k.files c.args.at f) (files_told g.B.Blob.bytes m names (is_top c.args.part))
    (adds_two steps c.args.files.now c.add_list.new.files c.loop-k.files c.args.at own (and_files rows pieces) c.in_ok-add_list.ensures
    (adds_two steps c.add_list.new.files c.add_recipients.new.files c.loop-k.files c.args.at rows pieces c.in_ok-add_recipients.ensures last))

pub add_body-returns-in_ok-storage-in-Message : goal.add_body-returns-in_ok-storage-in-Message
add_body-returns-in_ok-storage-in-Message g t c =
    let names = names_in c.args.names.now in
    let old = c.args.files.now in
    let mid = c.add_storage.new.self in
    let new = c.add_message.new.files in
    let m = tree_of g.B.Blob.bytes c.deref.result.now in
    let inside : FileTree = message_files names false m in
    let is : body_of g.B.Blob.bytes c.args.body.now ≡ plain.embedded m = ap (body_of g.B.Blob.bytes) c.in-Message.is ∙ message_made g.B.Blob.bytes c.in-Message.inner ∙ ap (λ x. plain.embedded (tree_of g.B.Blob.bytes x)) (sym c.deref.ensures) in
    let all = told_storage c.add_message.result old mid new c.args.at c.in_ok-storage-in-Message.storage (value_name OBJECT_TAG) NO_CLASS inside c.in_ok-storage-in-Message.ensures.number c.in_ok-storage-in-Message.ensures.ok c.add_message.ensures in
    subst (λ b. OnOk c.add_message.result (Adds old new c.args.at (body_files names b))) (sym is) all
