use Rattle.std.proofs.Common.{◌≡◌, ◌<◌, ◌+◌, ◌++◌, [], ℕ, List, Some, Result, Err, length, take, drop, get_or, take_all, not, refl, sym, ap, subst, ◌∙◌, length-append, arith}
use Rattle.std.specs.Prelude.{replicate, filter}
use Rattle.std.specs.List.{flat_map}
use Rattle.std.proofs.lemmas.List.{append-nil}
use Rattle.carrier_io.specs.declared.failures.Failed.{Failed}
use Rattle.carrier_model.specs.Bytes.{le16, sum16, pad4}
use Rattle.tnef_model.specs.LegacyAttributes.{ATTACHMENT}
use Rattle.tnef_model.specs.TnefCanonical.{attribute, content_of, list_bytes, stream_of, rendering_attribute, props_bytes, object_bytes}
use Rattle.carrier_model.specs.Kinds.{comes_before_object}
use Rattle.tnef_model.specs.TnefMessage.{IID_MESSAGE, IID_STORAGE}
use Rattle.carrier_model.specs.Tree as plain
use Rattle.carrier_model.specs.Values.{Prop}
use Rattle.carrier_model.proofs.Trees.{depth_at_le}
use Rattle.msg_tree.specs.Meaning.{tree_of, list_of, attached_of}
use Rattle.msg_tree.specs.StoreMeaning.{store_of}
use Rattle.msg_tree.specs.declared.messages.Message.{out-Message}
use Rattle.msg_tree.specs.declared.messages.Attachment.{out-Attachment}
use Rattle.msg_tree.proofs.Unrolled.{depth_out, names_out, tree_out, attached_props}
use Rattle.tnef_props.specs.Named.{HasNames}
use Rattle.tnef_props.proofs.Lengths.{list_length}
use Rattle.carrier_io.proofs.Summed.{sums_both, sums_first, sums_second}
use Rattle.tnef_props.proofs.WrittenValues.{padding}
use Rattle.tnef_writer.specs.Carried.{held_bytes, interface_of, object_head, object_value, IsPlannedAs}
use Rattle.tnef_writer.specs.MessagePlans.{plans_of}
use Rattle.tnef_writer.specs.TreeStores.{stores_at, files_of}
use Rattle.tnef_writer.specs.declared.planned.MessagePlan.{MessagePlan}
use Rattle.tnef_writer.specs.Written.{own_bytes, attachment_bytes, attached_list, carried_list, Includes}
use Rattle.tnef_writer.proofs.BodyVariants.{plain_body, message_body, store_body}
use Rattle.tnef_writer.proofs.NamesOfTree.{includes_left, includes_right, has_names, all_have_names, includes_at}
use Rattle.tnef_writer.proofs.SplitPlans.{some_plan, first_plan, plans_from, message_plans, one_file, file_one}
use Rattle.tnef_writer.proofs.StreamParts.{one_shorter, props_few, before, behind, stored_list}
use Rattle.tnef_writer.proofs.TreeLists.{messages_split, stores_split}
use Rattle.tnef_writer.proofs.WrittenStreams.{behind_more, behind_stops, object_parts, sums_as, message_whole}
use Rattle.tnef_writer.proofs.write_message.+writing.Goals as goal

-- ---- a message

pub append_message-append_own-requires-clause-own : goal.append_message-append_own-requires-clause-own
append_message-append_own-requires-clause-own g t c =
    let m = out-Message g.row.B.Denot c.args.message.now in
    let names = c.args.names.now in
    let own = plain.names_in_props m.props in
    let theirs = flat_map plain.names_in_props m.recipients in
    let below = plain.names_below (plain.attachments_from (list_of g.B.Blob.bytes m.attachments)) in
    has_names names m.props (includes_left names own theirs (includes_left names (own ++ theirs) below (subst (Includes names) (names_out g.B.Blob.bytes c.args.message.now) c.requires.known)))

pub append_message-append_own-requires-clause-known : goal.append_message-append_own-requires-clause-known
append_message-append_own-requires-clause-known g t c =
    let m = out-Message g.row.B.Denot c.args.message.now in
    let names = c.args.names.now in
    let own = plain.names_in_props m.props in
    let theirs = flat_map plain.names_in_props m.recipients in
    let below = plain.names_below (plain.attachments_from (list_of g.B.Blob.bytes m.attachments)) in
    all_have_names names m.recipients (includes_right names own theirs (includes_left names (own ++ theirs) below (subst (Includes names) (names_out g.B.Blob.bytes c.args.message.now) c.requires.known)))

pub append_message-returns-in_err-sum : goal.append_message-returns-in_err-sum
append_message-returns-in_err-sum g t c =
    let m = out-Message g.row.B.Denot c.args.message.now in
    let names = c.args.names.now in
    let own = own_bytes names m.props m.recipients in
    let rest = flat_map (attachment_bytes names) (list_of g.B.Blob.bytes m.attachments) in
    let same = ap (λ (u : plain.Message). own_bytes names (plain.props_of u) (plain.recipients_of u) ++ rest) (sym (tree_out g.B.Blob.bytes c.args.message.now)) in
    sums_as (own ++ rest) (stream_of names (tree_of g.B.Blob.bytes c.args.message.now)) (same ∙ sym (message_whole g.B.Blob.bytes names c.args.message.now)) (sums_first {x = own} rest c.from_residual.ensures.0 c.in_err-sum.ensures)

pub append_message-loop-k-init : goal.append_message-loop-k-init
append_message-loop-k-init g t c =
    let m = out-Message g.row.B.Denot c.args.message.now in
    let xs = list_of g.B.Blob.bytes m.attachments in
    let names = c.args.names.now in
    let own = own_bytes names m.props m.recipients in
    let tree = tree_of g.B.Blob.bytes c.args.message.now in
    let told = own_bytes names (plain.props_of tree) (plain.recipients_of tree) in
    let same : own ≡ told = ap (λ (u : plain.Message). own_bytes names (plain.props_of u) (plain.recipients_of u)) (sym (tree_out g.B.Blob.bytes c.args.message.now)) in
    record {
      sums = sums_as own (told ++ []) (same ∙ sym (append-nil told)) c.in_ok-sum.ensures;
      left = c.below-left.ensures names tree (flat_map plain.messages_at xs) (flat_map stores_at xs) (record {
        plans_are = c.requires.planned.plans_are ∙ ap (plans_of names) (messages_split g.B.Blob.bytes c.args.message.now);
        files_are = c.requires.planned.files_are ∙ ap files_of (stores_split g.B.Blob.bytes c.args.message.now);
      });
    }

pub append_message-below-left-requires : goal.append_message-below-left-requires
append_message-below-left-requires g t c = some_plan c.args.names.now (tree_of g.B.Blob.bytes c.args.message.now) c.args.planned.now.messages.now c.requires.planned.plans_are

pub append_message-split-requires : goal.append_message-split-requires
append_message-split-requires g t c =
    let names = c.args.names.now in
    let xs = list_of g.B.Blob.bytes (out-Message g.row.B.Denot c.args.message.now).attachments in
    let rest = plans_from names xs c.loop-k.k _ c.loop-k.left.messages.now c.loop-k.left.stores.now c.get-attachment.ensures c.loop-k.invariant.left in
    (names, flat_map plain.messages_at (drop (c.loop-k.k + 1) xs), flat_map stores_at (drop (c.loop-k.k + 1) xs), rest)

pub append_message-append_attachment-requires : goal.append_message-append_attachment-requires
append_message-append_attachment-requires g t c κs within =
    let m = out-Message g.row.B.Denot c.args.message.now in
    let names = c.args.names.now in
    let xs = list_of g.B.Blob.bytes m.attachments in
    let tree = tree_of g.B.Blob.bytes c.args.message.now in
    let e = depth_out g.B.Blob.bytes c.args.message.now in
    let le = depth_at_le xs c.loop-k.k _ c.get-attachment.ensures in
    let whole = ap length (message_whole g.B.Blob.bytes names c.args.message.now) in
    let one = one_shorter (attachment_bytes names) xs c.loop-k.k _ c.get-attachment.ensures in
    let both = length-append (own_bytes names (plain.props_of tree) (plain.recipients_of tree)) (flat_map (attachment_bytes names) xs) in
    let own = plain.names_in_props m.props in
    let theirs = flat_map plain.names_in_props m.recipients in
    let below = plain.names_below (plain.attachments_from xs) in
    let attachment = attached_of g.B.Blob.bytes c.get-attachment.result.now in
    let fits : length (attachment_bytes names attachment) < 4294967296 = omega (arith, c.requires.fits, whole, one, both) in
    let known : Includes names (plain.names_at attachment) = includes_at names xs c.loop-k.k _ c.get-attachment.ensures (includes_right names (own ++ theirs) below (subst (Includes names) (names_out g.B.Blob.bytes c.args.message.now) c.requires.known)) in
    let rest = plans_from names xs c.loop-k.k attachment c.loop-k.left.messages.now c.loop-k.left.stores.now c.get-attachment.ensures c.loop-k.invariant.left in
    let own = c.split.ensures.own names (flat_map plain.messages_at (drop (c.loop-k.k + 1) xs)) (flat_map stores_at (drop (c.loop-k.k + 1) xs)) rest in
    (omega (arith, e, le), (within.0, (within.1, (fits, (own, (known, c.requires.few))))))

pub append_message-returns-in_err-sum-2 : goal.append_message-returns-in_err-sum-2
append_message-returns-in_err-sum-2 g t c =
    let m = out-Message g.row.B.Denot c.args.message.now in
    let names = c.args.names.now in
    let xs = list_of g.B.Blob.bytes m.attachments in
    let tree = tree_of g.B.Blob.bytes c.args.message.now in
    let own = own_bytes names (plain.props_of tree) (plain.recipients_of tree) in
    sums_as (own ++ flat_map (attachment_bytes names) xs) (stream_of names tree) (sym (message_whole g.B.Blob.bytes names c.args.message.now))
    (behind_stops own (attachment_bytes names) xs c.loop-k.k _ c.get-attachment.ensures c.from_residual-in_err-sum-2.ensures.0 c.loop-k.invariant.sums c.in_err-sum-2.ensures)

pub append_message-loop-k-preserved : goal.append_message-loop-k-preserved
append_message-loop-k-preserved g t c =
    let m = out-Message g.row.B.Denot c.args.message.now in
    let names = c.args.names.now in
    let xs = list_of g.B.Blob.bytes m.attachments in
    let tree = tree_of g.B.Blob.bytes c.args.message.now in
    let rest = plans_from names xs c.loop-k.k _ c.loop-k.left.messages.now c.loop-k.left.stores.now c.get-attachment.ensures c.loop-k.invariant.left in
    record {
      sums = behind_more (own_bytes names (plain.props_of tree) (plain.recipients_of tree)) (attachment_bytes names) xs c.loop-k.k _ _ c.get-attachment.ensures refl c.loop-k.invariant.sums c.in_ok-sum-2.ensures;
      left = c.split.ensures.others names (flat_map plain.messages_at (drop (c.loop-k.k + 1) xs)) (flat_map stores_at (drop (c.loop-k.k + 1) xs)) rest;
    }

pub append_message-returns : goal.append_message-returns
append_message-returns g t c =
    let m = out-Message g.row.B.Denot c.args.message.now in
    let names = c.args.names.now in
    let xs = list_of g.B.Blob.bytes m.attachments in
    let tree = tree_of g.B.Blob.bytes c.args.message.now in
    let own = own_bytes names (plain.props_of tree) (plain.recipients_of tree) in
    let all : take c.loop-k.k xs ≡ xs = take_all c.loop-k.k xs (omega (arith, c.len-k-end.ensures, c.loop-k-test.false)) in
    sums_as (own ++ flat_map (attachment_bytes names) (take c.loop-k.k xs)) (stream_of names tree) (ap (λ (z : List plain.Attached). own ++ flat_map (attachment_bytes names) z) all ∙ sym (message_whole g.B.Blob.bytes names c.args.message.now)) c.loop-k.invariant.sums

-- ---- an attachment

pub append_attachment-returns-in_err-rendering : goal.append_attachment-returns-in_err-rendering
append_attachment-returns-in_err-rendering g t c =
    let x = attached_of g.B.Blob.bytes c.args.attachment.now in
    let p = ap rendering_attribute (sym (attached_props g.B.Blob.bytes c.args.attachment.now)) in
    sums_first {x = rendering_attribute x.0} (attribute 2 ATTACHMENT (attached_list c.args.names.now x)) c.from_residual.ensures.0 (sums_as _ (rendering_attribute x.0) p c.in_err-rendering.ensures)

pub append_attachment-returns-in_err-list : goal.append_attachment-returns-in_err-list
append_attachment-returns-in_err-list g t c =
    let x = attached_of g.B.Blob.bytes c.args.attachment.now in
    let p = ap rendering_attribute (sym (attached_props g.B.Blob.bytes c.args.attachment.now)) in
    sums_second {x = rendering_attribute x.0} {y = attribute 2 ATTACHMENT (attached_list c.args.names.now x)} c.from_residual-in_err-list.ensures.0 (sums_as _ (rendering_attribute x.0) p c.in_ok-rendering.ensures) c.in_err-list.ensures

pub append_attachment-returns : goal.append_attachment-returns
append_attachment-returns g t c =
    let x = attached_of g.B.Blob.bytes c.args.attachment.now in
    let p = ap rendering_attribute (sym (attached_props g.B.Blob.bytes c.args.attachment.now)) in
    sums_both {x = rendering_attribute x.0} {y = attribute 2 ATTACHMENT (attached_list c.args.names.now x)} _ refl (sums_as _ (rendering_attribute x.0) p c.in_ok-rendering.ensures) c.in_ok-list.ensures

-- what a list answers at a place that it has not
abbrev unknown : MessagePlan
unknown = record { size = 0; messages = 0; stores = 0 }

pub append_attached-append_filled-requires-clause-known : goal.append_attached-append_filled-requires-clause-known
append_attached-append_filled-requires-clause-known g t c =
    let names = c.args.names.now in
    let e = plain_body g.B.Blob.bytes c.args.attachment.now c.in-Plain.is in
    let p = attached_props g.B.Blob.bytes c.args.attachment.now in
    let x = attached_of g.B.Blob.bytes c.args.attachment.now in
    subst (HasNames names) p (has_names names x.0 (includes_left names (plain.names_in_props x.0) (plain.names_in_body x.1) c.requires.known))

pub append_attached-bounds-planned-0 : goal.append_attached-bounds-planned-0
append_attached-bounds-planned-0 g t c =
    let names = c.args.names.now in
    let inner = tree_of g.B.Blob.bytes c.in-Message.inner.value in
    let e = message_body g.B.Blob.bytes c.args.attachment.now c.in-Message.inner c.in-Message.is in
    let own = message_plans names (attached_of g.B.Blob.bytes c.args.attachment.now) inner _ _ e c.requires.planned in
    some_plan names inner c.args.planned.now.messages.now own.plans_are

pub append_attached-append_carrying-requires : goal.append_attached-append_carrying-requires
append_attached-append_carrying-requires g t c κs within =
    let names = c.args.names.now in
    let x = attached_of g.B.Blob.bytes c.args.attachment.now in
    let props = (out-Attachment g.row.B.Denot c.args.attachment.now).props in
    let inner = tree_of g.B.Blob.bytes c.in-Message.inner.value in
    let p = attached_props g.B.Blob.bytes c.args.attachment.now in
    let e = message_body g.B.Blob.bytes c.args.attachment.now c.in-Message.inner c.in-Message.is in
    let list : attached_list names x ≡ carried_list names props (IID_MESSAGE ++ stream_of names inner) = λ i. list_bytes names (p i) (content_of names (e i)) in
    let fits : length (carried_list names props (IID_MESSAGE ++ stream_of names inner)) < 4294967296 = omega (arith, c.requires.fits, ap length list) in
    let own = subst (HasNames names) p (has_names names x.0 (includes_left names (plain.names_in_props x.0) (plain.names_in_body x.1) c.requires.known)) in
    let plans = message_plans names x inner c.args.planned.now.messages.now c.args.planned.now.stores.now e c.requires.planned in
    let plan = get_or c.args.planned.now.messages.now 0 unknown in
    let carried : IsPlannedAs names inner plan.size c.args.planned.now = record {
      size_is = ap (λ (q : MessagePlan). q.size) (first_plan names inner c.args.planned.now.messages.now unknown plans.plans_are);
      plans_are = plans;
      known = subst (λ b. Includes names (plain.names_in_body b)) e (includes_right names (plain.names_in_props x.0) (plain.names_in_body x.1) c.requires.known);
    } in
    rw c.deref.ensures (omega (arith, ap plain.depth_of_body e), (within.0, (within.1, (fits, (own, (carried, c.requires.few))))))

pub append_attached-bounds-planned-0-in-Store : goal.append_attached-bounds-planned-0-in-Store
append_attached-bounds-planned-0-in-Store g t c =
    let x = attached_of g.B.Blob.bytes c.args.attachment.now in
    one_file c.args.names.now x (store_of g.B.Blob.bytes c.in-Store.field-0) c.args.planned.now.messages.now c.args.planned.now.stores.now (store_body g.B.Blob.bytes c.args.attachment.now c.in-Store.field-0 c.in-Store.is) c.requires.planned

pub append_attached-append_carrying-requires-in-Store : goal.append_attached-append_carrying-requires-in-Store
append_attached-append_carrying-requires-in-Store g t c κs within =
    let names = c.args.names.now in
    let x = attached_of g.B.Blob.bytes c.args.attachment.now in
    let props = (out-Attachment g.row.B.Denot c.args.attachment.now).props in
    let s = store_of g.B.Blob.bytes c.in-Store.field-0 in
    let p = attached_props g.B.Blob.bytes c.args.attachment.now in
    let e = store_body g.B.Blob.bytes c.args.attachment.now c.in-Store.field-0 c.in-Store.is in
    let file = get_or c.args.planned.now.stores.now 0 c.index-planned-0.result in
    let is = file_one names x s c.args.planned.now.messages.now c.args.planned.now.stores.now e c.requires.planned c.index-planned-0.result in
    let list : attached_list names x ≡ carried_list names props (IID_STORAGE ++ file) = stored_list names x props s file p e is in
    let fits : length (carried_list names props (IID_STORAGE ++ file)) < 4294967296 = omega (arith, c.requires.fits, ap length list) in
    let own = subst (HasNames names) p (has_names names x.0 (includes_left names (plain.names_in_props x.0) (plain.names_in_body x.1) c.requires.known)) in
    (omega arith, (within.0, (within.1, (fits, (own, (tt, c.requires.few))))))

pub append_attached-returns-in-Plain : goal.append_attached-returns-in-Plain
append_attached-returns-in-Plain g t c =
    let names = c.args.names.now in
    let p = attached_props g.B.Blob.bytes c.args.attachment.now in
    let e = plain_body g.B.Blob.bytes c.args.attachment.now c.in-Plain.is in
    sums_as _ _ (sym (λ i. attribute 2 ATTACHMENT (list_bytes names (p i) (content_of names (e i))))) c.append_filled.ensures

pub append_attached-returns-in-Message : goal.append_attached-returns-in-Message
append_attached-returns-in-Message g t c =
    let names = c.args.names.now in
    let p = attached_props g.B.Blob.bytes c.args.attachment.now in
    let e = message_body g.B.Blob.bytes c.args.attachment.now c.in-Message.inner c.in-Message.is in
    sums_as _ _ (sym (λ i. attribute 2 ATTACHMENT (list_bytes names (p i) (content_of names (e i))))) (rw c.deref.ensures at c.append_carrying.ensures)

pub append_attached-returns-in-Store : goal.append_attached-returns-in-Store
append_attached-returns-in-Store g t c =
    let names = c.args.names.now in
    let x = attached_of g.B.Blob.bytes c.args.attachment.now in
    let props = (out-Attachment g.row.B.Denot c.args.attachment.now).props in
    let s = store_of g.B.Blob.bytes c.in-Store.field-0 in
    let e = store_body g.B.Blob.bytes c.args.attachment.now c.in-Store.field-0 c.in-Store.is in
    let file = get_or c.args.planned.now.stores.now 0 c.index-planned-0.result in
    let is = file_one names x s c.args.planned.now.messages.now c.args.planned.now.stores.now e c.requires.planned c.index-planned-0.result in
    let list = stored_list names x props s file (attached_props g.B.Blob.bytes c.args.attachment.now) e is in
    sums_as _ _ (ap (attribute 2 ATTACHMENT) (sym list)) c.append_carrying-in-Store.ensures

-- ---- the attribute of an attachment with an Object

pub append_carrying-overflow_cast-size : goal.append_carrying-overflow_cast-size
append_carrying-overflow_cast-size g t c =
    let names = c.args.names.now in
    let x = object_value g.B.Blob.bytes names c.args.carried.now in
    let long = sym (c.size.ensures names c.requires.carried) in
    omega (arith, c.requires.fits, c.list_size-size.ensures names (Some x) (ap Some long))

pub append_carrying-returns-in_err-head : goal.append_carrying-returns-in_err-head
append_carrying-returns-in_err-head g t c =
    let names = c.args.names.now in
    let x = object_value g.B.Blob.bytes names c.args.carried.now in
    let list = carried_list names c.args.props.now x in
    let long = sym (c.size.ensures names c.requires.carried) in
    let size : c.list_size-size.result ≡ length list = omega (arith, c.requires.fits, c.list_size-size.ensures names (Some x) (ap Some long)) in
    sums_first (list ++ le16 (sum16 list)) c.from_residual.ensures.0 (rw (c.attribute_head.ensures, size) at c.in_err-head.ensures)

pub append_carrying-returns-in_err-list : goal.append_carrying-returns-in_err-list
append_carrying-returns-in_err-list g t c =
    let names = c.args.names.now in
    let x = object_value g.B.Blob.bytes names c.args.carried.now in
    let list = carried_list names c.args.props.now x in
    let long = sym (c.size.ensures names c.requires.carried) in
    let size : c.list_size-size.result ≡ length list = omega (arith, c.requires.fits, c.list_size-size.ensures names (Some x) (ap Some long)) in
    let head = rw (c.attribute_head.ensures, size) at c.in_ok-head.ensures in
    sums_second c.from_residual-in_err-list.ensures.0 head (sums_first {r = Err c.in_err-list.field-0.0} {x = list} (le16 (sum16 list)) refl c.in_err-list.ensures)

pub append_carrying-returns-in_err-sum : goal.append_carrying-returns-in_err-sum
append_carrying-returns-in_err-sum g t c =
    let names = c.args.names.now in
    let x = object_value g.B.Blob.bytes names c.args.carried.now in
    let list = carried_list names c.args.props.now x in
    let long = sym (c.size.ensures names c.requires.carried) in
    let size : c.list_size-size.result ≡ length list = omega (arith, c.requires.fits, c.list_size-size.ensures names (Some x) (ap Some long)) in
    let head = rw (c.attribute_head.ensures, size) at c.in_ok-head.ensures in
    let tail = rw (c.le16.ensures, c.in_ok-list.ensures.sum) at c.in_err-sum.ensures in
    sums_second c.from_residual-in_err-sum.ensures.0 head (sums_second {r = Err c.in_err-sum.field-0.0} {x = list} refl c.in_ok-list.ensures tail)

pub append_carrying-returns : goal.append_carrying-returns
append_carrying-returns g t c =
    let names = c.args.names.now in
    let x = object_value g.B.Blob.bytes names c.args.carried.now in
    let list = carried_list names c.args.props.now x in
    let long = sym (c.size.ensures names c.requires.carried) in
    let size : c.list_size-size.result ≡ length list = omega (arith, c.requires.fits, c.list_size-size.ensures names (Some x) (ap Some long)) in
    let head = rw (c.attribute_head.ensures, size) at c.in_ok-head.ensures in
    let tail = rw (c.le16.ensures, c.in_ok-list.ensures.sum) at c.in_ok-sum.ensures in
    sums_both {F = Failed} _ refl head (sums_both {x = list} _ refl c.in_ok-list.ensures tail)

-- ---- its list

pub append_split-overflow_cast-len : goal.append_split-overflow_cast-len
append_split-overflow_cast-len g t c =
    let names = c.args.names.now in
    let x = object_value g.B.Blob.bytes names c.args.carried.now in
    omega (arith, c.requires.fits, c.len.ensures, props_few names c.args.props.now, list_length names c.args.props.now (Some x))

pub append_split-overflow_add-len : goal.append_split-overflow_add-len
append_split-overflow_add-len g t c =
    let names = c.args.names.now in
    let x = object_value g.B.Blob.bytes names c.args.carried.now in
    omega (arith, c.requires.fits, c.len.ensures, props_few names c.args.props.now, list_length names c.args.props.now (Some x))

pub append_split-returns-in_err-count : goal.append_split-returns-in_err-count
append_split-returns-in_err-count g t c =
    let names = c.args.names.now in
    let props = c.args.props.now in
    let object = object_bytes (object_value g.B.Blob.bytes names c.args.carried.now) in
    let front = props_bytes names (filter comes_before_object props) in
    let back = props_bytes names (filter (λ (p : Prop). not (comes_before_object p)) props) in
    sums_first (front ++ (object ++ back)) c.from_residual.ensures.0 (rw (c.le32.ensures, c.len.ensures) at c.in_err-count.ensures)

pub append_split-returns-in_err-before : goal.append_split-returns-in_err-before
append_split-returns-in_err-before g t c =
    let names = c.args.names.now in
    let props = c.args.props.now in
    let object = object_bytes (object_value g.B.Blob.bytes names c.args.carried.now) in
    let back = props_bytes names (filter (λ (p : Prop). not (comes_before_object p)) props) in
    let count = rw (c.le32.ensures, c.len.ensures) at c.in_ok-count.ensures in
    let e = ap (props_bytes names) (before c.object_place-place.result props ∙ c.object_place-place.ensures.before) in
    sums_second c.from_residual-in_err-before.ensures.0 count (sums_first {r = Err c.in_err-before.field-0.0} (object ++ back) refl (sums_as _ _ e c.in_err-before.ensures))

pub append_split-returns-in_err-object : goal.append_split-returns-in_err-object
append_split-returns-in_err-object g t c =
    let names = c.args.names.now in
    let props = c.args.props.now in
    let back = props_bytes names (filter (λ (p : Prop). not (comes_before_object p)) props) in
    let count = rw (c.le32.ensures, c.len.ensures) at c.in_ok-count.ensures in
    let e = ap (props_bytes names) (before c.object_place-place.result props ∙ c.object_place-place.ensures.before) in
    let object = object_bytes (object_value g.B.Blob.bytes names c.args.carried.now) in
    let failed : Result ℕ Failed = Err c.in_err-object.field-0.0 in
    sums_second c.from_residual-in_err-object.ensures.0 count (sums_second {r = failed} refl (sums_as _ _ e c.in_ok-before.ensures) (sums_first {r = failed} {x = object} back refl c.in_err-object.ensures))

pub append_split-returns-in_err-behind : goal.append_split-returns-in_err-behind
append_split-returns-in_err-behind g t c =
    let names = c.args.names.now in
    let props = c.args.props.now in
    let count = rw (c.le32.ensures, c.len.ensures) at c.in_ok-count.ensures in
    let e = ap (props_bytes names) (before c.object_place-place.result props ∙ c.object_place-place.ensures.before) in
    let f = ap (props_bytes names) (behind c.object_place-place.result c.len-2.result props c.len-2.ensures ∙ c.object_place-place.ensures.behind) in
    let object = object_bytes (object_value g.B.Blob.bytes names c.args.carried.now) in
    let failed : Result ℕ Failed = Err c.in_err-behind.field-0.0 in
    sums_second c.from_residual-in_err-behind.ensures.0 count (sums_second {r = failed} refl (sums_as _ _ e c.in_ok-before.ensures) (sums_second {r = failed} {x = object} refl c.in_ok-object.ensures (sums_as _ _ f c.in_err-behind.ensures)))

pub append_split-returns : goal.append_split-returns
append_split-returns g t c =
    let names = c.args.names.now in
    let props = c.args.props.now in
    let count = rw (c.le32.ensures, c.len.ensures) at c.in_ok-count.ensures in
    let e = ap (props_bytes names) (before c.object_place-place.result props ∙ c.object_place-place.ensures.before) in
    let f = ap (props_bytes names) (behind c.object_place-place.result c.len-2.result props c.len-2.ensures ∙ c.object_place-place.ensures.behind) in
    let object = object_bytes (object_value g.B.Blob.bytes names c.args.carried.now) in
    sums_both {F = Failed} _ refl count (sums_both {F = Failed} _ refl (sums_as _ _ e c.in_ok-before.ensures) (sums_both {x = object} _ refl c.in_ok-object.ensures (sums_as _ _ f c.in_ok-behind.ensures)))

-- ---- the Object in it

pub append_object-returns-in_err-head : goal.append_object-returns-in_err-head
append_object-returns-in_err-head g t c =
    let names = c.args.names.now in
    let interface = interface_of c.args.carried.now in
    let held = held_bytes g.B.Blob.bytes names c.args.carried.now in
    let size : c.size-size.result ≡ length (interface ++ held) = omega (arith, c.requires.fits, c.size-size.ensures names c.requires.carried) in
    let zeros = replicate {A = ℕ} (pad4 c.size-size.result) 0 in
    let parts = object_parts interface held c.size-size.result (pad4 c.size-size.result) size refl in
    sums_as _ _ (sym parts) (sums_first {x = object_head c.size-size.result interface} (held ++ zeros) c.from_residual.ensures.0 c.in_err-head.ensures)

pub append_object-returns-in_err-held : goal.append_object-returns-in_err-held
append_object-returns-in_err-held g t c =
    let names = c.args.names.now in
    let interface = interface_of c.args.carried.now in
    let held = held_bytes g.B.Blob.bytes names c.args.carried.now in
    let size : c.size-size.result ≡ length (interface ++ held) = omega (arith, c.requires.fits, c.size-size.ensures names c.requires.carried) in
    let zeros = replicate {A = ℕ} (pad4 c.size-size.result) 0 in
    let parts = object_parts interface held c.size-size.result (pad4 c.size-size.result) size refl in
    sums_as _ _ (sym parts) (sums_second {x = object_head c.size-size.result interface} c.from_residual-in_err-held.ensures.0 c.in_ok-head.ensures (sums_first {r = Err c.in_err-held.field-0.0} {x = held} zeros refl c.in_err-held.ensures))

pub append_object-returns-in_err-zeros : goal.append_object-returns-in_err-zeros
append_object-returns-in_err-zeros g t c =
    let names = c.args.names.now in
    let interface = interface_of c.args.carried.now in
    let held = held_bytes g.B.Blob.bytes names c.args.carried.now in
    let size : c.size-size.result ≡ length (interface ++ held) = omega (arith, c.requires.fits, c.size-size.ensures names c.requires.carried) in
    let parts = object_parts interface held c.size-size.result c.pad4.result size (padding _ _ c.pad4.ensures.multiple c.pad4.ensures.least) in
    sums_as _ _ (sym parts) (sums_second {x = object_head c.size-size.result interface} c.from_residual-in_err-zeros.ensures.0 c.in_ok-head.ensures (sums_second {r = Err c.in_err-zeros.field-0.0} {x = held} refl c.in_ok-held.ensures c.in_err-zeros.ensures))

pub append_object-returns : goal.append_object-returns
append_object-returns g t c =
    let names = c.args.names.now in
    let interface = interface_of c.args.carried.now in
    let held = held_bytes g.B.Blob.bytes names c.args.carried.now in
    let size : c.size-size.result ≡ length (interface ++ held) = omega (arith, c.requires.fits, c.size-size.ensures names c.requires.carried) in
    let parts = object_parts interface held c.size-size.result c.pad4.result size (padding _ _ c.pad4.ensures.multiple c.pad4.ensures.least) in
    sums_as _ _ (sym parts) (sums_both {F = Failed} {x = object_head c.size-size.result interface} _ refl c.in_ok-head.ensures (sums_both {x = held} _ refl c.in_ok-held.ensures c.in_ok-zeros.ensures))
