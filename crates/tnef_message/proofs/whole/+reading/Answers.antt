use Rattle.std.proofs.Common.{◌≡◌, ◌+◌, ◌-◌, ◌≤◌, [], ◌++◌, inl, inr, length, true, Some, None, refl, sym, ap, subst, ◌∙◌, append_assoc, arith}
use Rattle.std.specs.Prelude.{slice_get}
use Rattle.std.proofs.lemmas.List.{append-nil}
use Rattle.std.specs.Option.{option_map}
use Rattle.std.proofs.lemmas.Result.{err_from_is_err_and}
use Rattle.carrier_io.specs.Reads.{FaultOnly}
use Rattle.carrier_io.specs.Reasons.{fault_of}
use Rattle.carrier_io.proofs.Sides.{on_fault}
use Rattle.tnef_model.specs.Attributes.{Attrs}
use Rattle.carrier_model.specs.Grammar.{Means}
use Rattle.tnef_model.specs.TnefLists.{prop_list}
use Rattle.tnef_model.specs.TnefMessage as plain
use Rattle.carrier_model.specs.Meanings.{Meaning, Held, held_message, held_store}
use Rattle.tnef_model.specs.TnefMessage.{message_within, with_inner}
use Rattle.carrier_model.specs.Tree.{embedded}
use Rattle.msg_tree.specs.Meaning.{tree_of, body_of}
use Rattle.msg_tree.specs.StoreMeaning.{store_of}
use Rattle.msg_tree.specs.declared.messages.Body.TheVariants.{Message, Store}
use Rattle.tnef_props.specs.Meaning.{object_of}
use Rattle.tnef_props.specs.ReadLists.{list_seen}
use Rattle.tnef_attributes.specs.Views.{view, views}
use Rattle.tnef_message.specs.Contents.{inner_at, objects_at, FailsPart}
use Rattle.tnef_message.specs.HeldBytes.{held_bytes}
use Rattle.tnef_message.specs.Interfaces.{IsInterface}
use Rattle.tnef_message.specs.Streams.{objects_fail, stream_fails}
use Rattle.tnef_message.proofs.Bodies.{plain_made, message_made, store_made}
use Rattle.tnef_message.proofs.ObjectMeanings.{store_means, inner_means}
use Rattle.tnef_message.proofs.Streams.{attachment_fails, object_inside_fails, with_object, without_object, attrs_stop, place_fails, progress_more, progress_all, attr_within}
use Rattle.tnef_message.proofs.whole.+reading.Goals as goal

pub attachment_gift-returns-in_err-list-clause-fault : goal.attachment_gift-returns-in_err-list-clause-fault
attachment_gift-returns-in_err-list-clause-fault t c =
    let p = err_from_is_err_and c.from_residual.result c.from_residual.ensures.1 in
    let a = view c.args.attribute.now in
    rw (p.1, p.2) (on_fault (FaultOnly (Means (prop_list true) (a.offset + 9 + 0) a.bytes) ((prop_list true).fails (a.offset + 9 + 0) a.bytes)) (FailsPart c.args.levels a)
    (λ g f. attachment_fails (objects_at c.args.levels) a c.requires.list g f.is_first) c.in_err-list.field-0.0 c.in_err-list.ensures.fault)

pub attachment_gift-returns-in_err-body-in-Some-clause-fault : goal.attachment_gift-returns-in_err-body-in-Some-clause-fault
attachment_gift-returns-in_err-body-in-Some-clause-fault t c =
    let p = err_from_is_err_and c.from_residual-in_err-body-in-Some.result c.from_residual-in_err-body-in-Some.ensures.1 in
    let a = view c.args.attribute.now in
    let x = c.in_ok-list.ensures.found in
    let o = c.in-Some.object in
    rw (p.1, p.2) (on_fault (objects_fail c.args.levels o.offset o.bytes.now) (FailsPart c.args.levels a)
    (λ g f. object_inside_fails (objects_at c.args.levels) a c.requires.list (list_seen c.in_ok-list.list x.more) (object_of o) g _ _ (ap (option_map object_of) c.in-Some.is) f x.spans) c.in_err-body-in-Some.field-0.0 c.in_err-body-in-Some.ensures.fault)

pub attachment_gift-returns-in_ok-body-in-Some-clause-found : goal.attachment_gift-returns-in_ok-body-in-Some-clause-found
attachment_gift-returns-in_ok-body-in-Some-clause-found t c =
    let a = view c.args.attribute.now in
    let x = c.in_ok-list.ensures.found in
    let y = c.in_ok-body-in-Some.ensures.found in
    let o = c.in-Some.object in
    let l = list_seen c.in_ok-list.list x.more in
    let h : Held = record { body = body_of held_bytes c.in_ok-body-in-Some.body; passed = y.more } in
    record {
      given_part = with_inner l (Some h);
      means = with_object (objects_at c.args.levels) a c.requires.list l (object_of o) h _ _ (ap (option_map object_of) c.in-Some.is) y.means x.spans;
      given = refl;
      passed = y.passed ∙ ap (λ z. z ++ y.more) x.passed ∙ append_assoc c.args.passed.now x.more y.more;
      fits = c.requires.list;
    }

pub attachment_gift-returns-in-None-clause-found : goal.attachment_gift-returns-in-None-clause-found
attachment_gift-returns-in-None-clause-found t c =
    let a = view c.args.attribute.now in
    let x = c.in_ok-list.ensures.found in
    let l = list_seen c.in_ok-list.list x.more in
    record {
      given_part = with_inner l None;
      means = without_object (objects_at c.args.levels) a c.requires.list l _ _ (ap (option_map object_of) c.in-None.is) x.spans;
      given = ap (plain.attachment c.in_ok-list.list.props) (sym (plain_made held_bytes));
      passed = x.passed;
      fits = c.requires.list;
    }

pub body_in-returns-in_ok-store_in-in-Storage-clause-found : goal.body_in-returns-in_ok-store_in-in-Storage-clause-found
body_in-returns-in_ok-store_in-in-Storage-clause-found t c =
    let o = c.args.object in
    let store = c.in_ok-store_in-in-Storage.field-0 in
    let id = subst (IsInterface o.bytes.now) c.in-Storage.is c.in_ok-interface_of.ensures.found in
    let held : Held = record { body = body_of held_bytes (Store store); passed = [] } in
    let same : held_store (store_of held_bytes store) ≡ held = λ i. record { body = sym (store_made held_bytes store) i; passed = [] } in
    record {
      more = [];
      means = subst (λ (h : Held). (objects_at c.args.levels).means o.offset o.bytes.now h) same (store_means c.args.levels o.offset o.bytes.now (store_of held_bytes store) id.0 id.1 c.in_ok-store_in-in-Storage.ensures.found);
      passed = sym (append-nil c.args.passed.now);
    }

pub message_in-returns-clause-found : goal.message_in-returns-clause-found
message_in-returns-clause-found t c =
    let o = c.args.object in
    let y = c.in_ok-message.ensures.found in
    let m : Meaning = record { message = tree_of held_bytes c.in_ok-message.message; passed = y.more } in
    let held : Held = record { body = body_of held_bytes (Message c.in_ok-new.field-0); passed = y.more } in
    let same : held_message m ≡ held = λ i. record { body = (ap (λ b. embedded (tree_of held_bytes b)) (sym c.in_ok-new.ensures.ok) ∙ sym (message_made held_bytes c.in_ok-new.field-0)) i; passed = y.more } in
    record {
      more = y.more;
      means = subst (λ (h : Held). (inner_at c.args.levels).means o.offset o.bytes.now h) same (inner_means c.args.levels o.offset o.bytes.now (c.args.levels - 1) m (omega (arith, c.if-levels-eq0.false)) (subst (λ z. (message_within (c.args.levels - 1)).means (o.offset + 16) z m) c.split_at.ensures.back y.means));
      passed = y.passed;
    }

pub message_at-returns-in_err-attributes-clause-fault :
    goal.message_at-returns-in_err-attributes-clause-fault
message_at-returns-in_err-attributes-clause-fault t c =
    let p = err_from_is_err_and c.from_residual.result c.from_residual.ensures.1 in
    rw (p.1, p.2) (attrs_stop c.args.levels c.args.at c.args.bytes.now c.in_err-attributes.field-0.0 c.in_err-attributes.ensures)

pub message_at-returns-in_err-test-clause-fault : goal.message_at-returns-in_err-test-clause-fault
message_at-returns-in_err-test-clause-fault t c =
    let p = err_from_is_err_and c.from_residual-in_err-test.result c.from_residual-in_err-test.ensures.1 in
    let l = c.loop-k in
    let a = view c.get-attribute.result.now in
    let v : views c.attributes.inside.list.items ≡ c.in_ok-attributes.attributes = c.attributes.view_is in
    let at_k : slice_get (views c.attributes.inside.list.items) l.k ≡ Some a = subst (λ z. slice_get z l.k ≡ Some a) (sym v) c.get-attribute.ensures in
    let there : Attrs c.args.at c.args.bytes.now (views c.attributes.inside.list.items) = subst (Attrs c.args.at c.args.bytes.now) (sym v) c.in_ok-attributes.ensures.found in
    rw (p.1, p.2) (place_fails c.args.levels (views c.attributes.inside.list.items) l.k l.draft c.args.passed.now l.passed l.invariant a at_k c.args.at c.args.bytes.now (fault_of c.in_err-test.field-0.0) there (inl (c.in_err-test.ensures l.invariant.reads l.invariant.draft)))

pub message_at-gift_of-requires : goal.message_at-gift_of-requires
message_at-gift_of-requires t c =
    let w = attr_within c.args.at c.args.bytes.now c.in_ok-attributes.attributes c.loop-k.k (view c.get-attribute.result.now) c.in_ok-attributes.ensures.found c.get-attribute.ensures in
    (omega arith, omega (arith, w))

pub message_at-returns-in_err-gift-clause-fault : goal.message_at-returns-in_err-gift-clause-fault
message_at-returns-in_err-gift-clause-fault t c =
    let p = err_from_is_err_and c.from_residual-in_err-gift.result c.from_residual-in_err-gift.ensures.1 in
    let l = c.loop-k in
    let a = view c.get-attribute.result.now in
    let v : views c.attributes.inside.list.items ≡ c.in_ok-attributes.attributes = c.attributes.view_is in
    let at_k : slice_get (views c.attributes.inside.list.items) l.k ≡ Some a = subst (λ z. slice_get z l.k ≡ Some a) (sym v) c.get-attribute.ensures in
    let there : Attrs c.args.at c.args.bytes.now (views c.attributes.inside.list.items) = subst (Attrs c.args.at c.args.bytes.now) (sym v) c.in_ok-attributes.ensures.found in
    let place = c.in_ok-test.ensures l.invariant.reads l.invariant.draft in
    rw (p.1, p.2) (on_fault (FailsPart c.args.levels a) (stream_fails c.args.levels c.args.at c.args.bytes.now)
    (λ g f. place_fails c.args.levels (views c.attributes.inside.list.items) l.k l.draft c.args.passed.now l.passed l.invariant a at_k c.args.at c.args.bytes.now g there (inr (place, f))) c.in_err-gift.field-0.0 c.in_err-gift.ensures.fault)

pub message_at-enter-requires-clause-few : goal.message_at-enter-requires-clause-few
message_at-enter-requires-clause-few t c =
    let w = attr_within c.args.at c.args.bytes.now c.in_ok-attributes.attributes c.loop-k.k (view c.get-attribute.result.now) c.in_ok-attributes.ensures.found c.get-attribute.ensures in
    omega (arith, w)

pub message_at-loop-k-preserved : goal.message_at-loop-k-preserved
message_at-loop-k-preserved t c =
    let l = c.loop-k in
    let a = view c.get-attribute.result.now in
    let v : views c.attributes.inside.list.items ≡ c.in_ok-attributes.attributes = c.attributes.view_is in
    let at_k : slice_get (views c.attributes.inside.list.items) l.k ≡ Some a = subst (λ z. slice_get z l.k ≡ Some a) (sym v) c.get-attribute.ensures in
    let place = c.in_ok-test.ensures l.invariant.reads l.invariant.draft in
    let g = c.in_ok-gift.ensures.found in
    progress_more c.args.levels (views c.attributes.inside.list.items) l.k l.draft c.args.passed.now l.passed l.invariant a at_k c.in_ok-gift.gift c.enter.new.self c.gift_of.new.passed place g
    (c.in_ok-enter.ensures l.invariant.reads g.given_part l.invariant.draft place g.given)

pub message_at-returns-clause-found : goal.message_at-returns-clause-found
message_at-returns-clause-found t c =
    let l = c.loop-k in
    let v : views c.attributes.inside.list.items ≡ c.in_ok-attributes.attributes = c.attributes.view_is in
    let there : Attrs c.args.at c.args.bytes.now (views c.attributes.inside.list.items) = subst (Attrs c.args.at c.args.bytes.now) (sym v) c.in_ok-attributes.ensures.found in
    let le : length (views c.attributes.inside.list.items) ≤ l.k = omega (arith, ap length v, c.len-k-end.ensures, c.loop-k-test.false) in
    record {
      more = _;
      means = progress_all c.args.levels (views c.attributes.inside.list.items) l.k l.draft c.args.passed.now l.passed l.invariant c.args.at c.args.bytes.now _ le there (c.in_ok-message.ensures l.invariant.reads l.invariant.draft);
      passed = l.invariant.passed_are;
    }
