use Rattle.std.proofs.Common.{◌≡◌, ◌∙◌, ◌-◌, ap, refl, sym, subst, ℕ, List, [], ◌∷◌, Some, length, take, take_all, length-append, arith}
use Rattle.std.specs.List.{flat_map}
use Rattle.std.specs.Option.{option_map}
use Rattle.carrier_model.specs.Stores.{store_bytes}
use Rattle.carrier_model.specs.Totals.{capped}
use Rattle.carrier_model.specs.Tree as plain
use Rattle.carrier_model.proofs.Trees.{depth_at_le}
use Rattle.msg_tree.specs.Keeping.{HasStores, BodyHasStores}
use Rattle.msg_tree.specs.Meaning.{tree_of, list_of, attached_of}
use Rattle.msg_tree.specs.StoreMeaning.{store_of}
use Rattle.msg_tree.specs.declared.messages.Message.{out-Message}
use Rattle.msg_tree.proofs.Unrolled.{attached_props, depth_out, tree_out}
use Rattle.carrier_io.proofs.Summed.{flat_map_more}
use Rattle.tnef_model.specs.TnefCanonical.{content_of, list_bytes, stream_of}
use Rattle.tnef_writer.specs.MessagePlans.{Adds}
use Rattle.tnef_writer.specs.TreeStores.{stores_at, stores_in_body}
use Rattle.tnef_writer.specs.Written.{attachment_bytes, own_bytes}
use Rattle.tnef_writer.specs.declared.planned.MessagePlan.{MessagePlan}
use Rattle.tnef_writer.proofs.AddedPlans.{adds_more, adds_message, haves_at}
use Rattle.tnef_writer.proofs.BodyVariants.{plain_body, message_body, store_body}
use Rattle.tnef_writer.proofs.StreamParts.{attachment_length, storage_size, stream_parts}
use Rattle.tnef_writer.proofs.TreeLists.{messages_split, stores_split}
use Rattle.tnef_writer.proofs.planning.+planning.Goals as goal

-- what stands in the place of a plan before it is known
abbrev unknown : MessagePlan
unknown = record { size = 0; messages = 0; stores = 0 }

-- ---- a message

pub plan_message-overflow_sub-len : goal.plan_message-overflow_sub-len
plan_message-overflow_sub-len g t c = omega (arith, (c.in_ok-plan_attachments.ensures.added []).plans_rise, ap length c.in_ok-push.ensures.items, c.len-place.ensures, c.len.ensures)

pub plan_message-overflow_sub-len-2 : goal.plan_message-overflow_sub-len-2
plan_message-overflow_sub-len-2 g t c = omega (arith, (c.in_ok-plan_attachments.ensures.added []).files_rise, c.len-stores.ensures, c.len-2.ensures)

pub plan_message-index_mut-requires : goal.plan_message-index_mut-requires
plan_message-index_mut-requires g t c = omega (arith, (c.in_ok-plan_attachments.ensures.added []).plans_rise, ap length c.in_ok-push.ensures.items, length-append c.args.plans.now.messages.items (unknown ∷ []), c.len-place.ensures, c.plan_attachments.new.plans.messages.ok, c.args.plans.now.messages.ok)

pub plan_message-returns-clause-size : goal.plan_message-returns-clause-size
plan_message-returns-clause-size g t c = λ names.
    let m = out-Message g.row.B.Denot c.args.message.now in
    let xs = list_of g.B.Blob.bytes m.attachments in
    let whole = ap (stream_of names) (tree_out g.B.Blob.bytes c.args.message.now) ∙ stream_parts names m.props m.recipients xs in
    omega (arith, ap length whole, length-append (own_bytes names m.props m.recipients) (flat_map (attachment_bytes names) xs), c.own_size-own.ensures names, c.in_ok-plan_attachments.ensures.size names, c.saturating_add-size.ensures)

pub plan_message-returns-clause-added : goal.plan_message-returns-clause-added
plan_message-returns-clause-added g t c = λ names.
    let m = c.args.message.now in
    let xs = list_of g.B.Blob.bytes (out-Message g.row.B.Denot m).attachments in
    let old = c.args.plans.now in
    let new = c.plan_attachments.new.plans in
    let plan : MessagePlan = record { size = c.saturating_add-size.result; messages = c.len.result - c.len-place.result; stores = c.len-2.result - c.len-stores.result } in
    adds_message names (tree_of g.B.Blob.bytes m) (flat_map plain.messages_at xs) (flat_map stores_at xs) old.messages.items c.push.new.self.items new.messages.items old.stores.items new.stores.items unknown plan c.len-place.result
    (messages_split g.B.Blob.bytes m) (stores_split g.B.Blob.bytes m) c.in_ok-push.ensures.items (c.in_ok-plan_attachments.ensures.added names) (c.len-place.ensures ∙ old.messages.ok.0) (plan_message-returns-clause-size g t c names)
    (omega (arith, c.len.ensures, new.messages.ok, c.len-place.ensures, old.messages.ok)) (omega (arith, c.len-2.ensures, new.stores.ok, c.len-stores.ensures, old.stores.ok))

-- ---- its attachments

pub plan_attachments-plan_attachment-requires : goal.plan_attachments-plan_attachment-requires
plan_attachments-plan_attachment-requires g t c κs within =
    let xs = list_of g.B.Blob.bytes c.args.attachments.now in
    let le = depth_at_le xs c.loop-k.k _ c.get.ensures in
    let has = haves_at xs c.loop-k.k _ c.get.ensures c.requires in
    (omega (arith, le), (within, has))

pub plan_attachments-loop-k-preserved : goal.plan_attachments-loop-k-preserved
plan_attachments-loop-k-preserved g t c =
    let xs = list_of g.B.Blob.bytes c.args.attachments.now in
    let one = attached_of g.B.Blob.bytes c.get.result.now in
    record {
      size_is = λ names.
          let more = flat_map_more (attachment_bytes names) xs c.loop-k.k one c.get.ensures in
          omega (arith, c.loop-k.invariant.size_is names, ap length more, length-append (flat_map (attachment_bytes names) (take c.loop-k.k xs)) (attachment_bytes names one), c.in_ok-plan_attachment.ensures.size names, c.saturating_add-size.ensures);
      added = λ names. adds_more names xs c.loop-k.k one _ _ _ _ _ _ c.get.ensures (c.loop-k.invariant.added names) (c.in_ok-plan_attachment.ensures.added names);
    }

pub plan_attachments-returns-clause-added : goal.plan_attachments-returns-clause-added
plan_attachments-returns-clause-added g t c = λ names.
    let xs = list_of g.B.Blob.bytes c.args.attachments.now in
    let all : take c.loop-k.k xs ≡ xs = take_all c.loop-k.k xs (omega (arith, c.len-k-end.ensures, c.loop-k-test.false)) in
    subst (λ (z : List plain.Attached). Adds names (flat_map plain.messages_at z) (flat_map stores_at z) c.args.plans.now.messages.items c.loop-k.plans.messages.items c.args.plans.now.stores.items c.loop-k.plans.stores.items) all (c.loop-k.invariant.added names)

-- ---- one of them

pub plan_attachment-returns-clause-size : goal.plan_attachment-returns-clause-size
plan_attachment-returns-clause-size g t c = λ names.
    let x = attached_of g.B.Blob.bytes c.args.attachment.now in
    let size = c.attachment_size.ensures names (content_of names x.1) (c.in_ok-object.ensures.size names) in
    let e = ap (λ p. length (list_bytes names p (content_of names x.1))) (attached_props g.B.Blob.bytes c.args.attachment.now) in
    omega (arith, size, e, attachment_length names x)

-- ---- what it holds

pub plan_object-returns-in_ok-size-in-Message-clause-size : goal.plan_object-returns-in_ok-size-in-Message-clause-size
plan_object-returns-in_ok-size-in-Message-clause-size g t c = λ names.
    let e = message_body g.B.Blob.bytes c.args.attachment.now c.in-Message.inner c.in-Message.is in
    let size = rw c.deref.ensures at (c.in_ok-size-in-Message.ensures.size names) in
    ap (λ b. option_map (λ (x : List ℕ). capped (length x)) (content_of names b)) e ∙ ap Some (omega (arith, size, c.saturating_add.ensures))

pub plan_object-returns-in_ok-size-in-Message-clause-added : goal.plan_object-returns-in_ok-size-in-Message-clause-added
plan_object-returns-in_ok-size-in-Message-clause-added g t c = λ names.
    let e = message_body g.B.Blob.bytes c.args.attachment.now c.in-Message.inner c.in-Message.is in
    let added = rw c.deref.ensures at (c.in_ok-size-in-Message.ensures.added names) in
    subst (λ b. Adds names (plain.messages_in_body b) (stores_in_body b) c.args.plans.now.messages.items c.plan_message.new.plans.messages.items c.args.plans.now.stores.items c.plan_message.new.plans.stores.items) (sym e) added

pub plan_object-returns-in_ok-size-in-Store-clause-added : goal.plan_object-returns-in_ok-size-in-Store-clause-added
plan_object-returns-in_ok-size-in-Store-clause-added g t c = λ names.
    let e = store_body g.B.Blob.bytes c.args.attachment.now c.in-Store.store c.in-Store.is in
    subst (λ b. Adds names (plain.messages_in_body b) (stores_in_body b) c.args.plans.now.messages.items c.add_store.new.self.messages.items c.args.plans.now.stores.items c.add_store.new.self.stores.items) (sym e) (c.in_ok-size-in-Store.ensures.added names)
