use Rattle.std.proofs.Common.{rules, ◌≡◌, ◌+◌, ℕ, [], ◌∷◌, true, false, eqb, refl, sym, ap}
use Rattle.std.specs.Prelude.{◌||◌}
use Rattle.std.proofs.lemmas.List.{append-nil}
use Rattle.std.proofs.lemmas.Result.{err_from_is_err_and}
use Rattle.carrier_io.specs.Reads.{FaultOnly}
use Rattle.carrier_io.proofs.Sides.{on_fault}
use Rattle.carrier_model.specs.Grammar.{Means}
use Rattle.tnef_model.specs.LegacyAttributes as ids
use Rattle.tnef_model.specs.TnefLists.{prop_list, recipient_lists}
use Rattle.tnef_model.specs.TnefMessage as plain
use Rattle.tnef_model.specs.TnefMessage.{part}
use Rattle.tnef_props.specs.ReadLists.{list_seen}
use Rattle.tnef_attributes.specs.Views.{view}
use Rattle.tnef_message.specs.Contents.{objects_at, FailsPart}
use Rattle.tnef_message.proofs.Parts.{message_means, message_fails, recipients_mean, recipients_fail, plain_form, nothing_means}
use Rattle.tnef_message.proofs.contents.plain_gift.Goals as goal

pub returns-in_err-list-clause-fault : goal.returns-in_err-list-clause-fault
returns-in_err-list-clause-fault c =
    let p = err_from_is_err_and c.from_residual.result c.from_residual.ensures.1 in
    let a = view c.args.attribute.now in
    rw (p.1, p.2) (on_fault (FaultOnly (Means (prop_list false) (a.offset + 9 + 0) a.bytes) ((prop_list false).fails (a.offset + 9 + 0) a.bytes)) (λ g. (levels : ℕ) → FailsPart levels a g)
    (λ g f levels. message_fails (objects_at levels) a g c.if-attribute-eq-MESSAGE_PROPS.true f.is_first) c.in_err-list.field-0.0 c.in_err-list.ensures.fault)

pub returns-then-attribute-eq-MESSAGE_PROPS-clause-found :
    goal.returns-then-attribute-eq-MESSAGE_PROPS-clause-found
returns-then-attribute-eq-MESSAGE_PROPS-clause-found c = λ levels.
    let a = view c.args.attribute.now in
    let x = c.in_ok-list.ensures.found in
    let e = c.if-attribute-eq-MESSAGE_PROPS.true in
    record {
      given_part = part (plain.message_list c.in_ok-list.list.props) x.more;
      means = message_means (objects_at levels) a (list_seen c.in_ok-list.list x.more) _ _ e x.spans;
      given = refl;
      passed = x.passed;
      fits = e;
    }

pub returns-in_err-recipients_in-clause-fault : goal.returns-in_err-recipients_in-clause-fault
returns-in_err-recipients_in-clause-fault c =
    let p = err_from_is_err_and c.from_residual-in_err-recipients_in.result c.from_residual-in_err-recipients_in.ensures.1 in
    let a = view c.args.attribute.now in
    rw (p.1, p.2) (on_fault (recipient_lists.fails (a.offset + 9) a.bytes) (λ g. (levels : ℕ) → FailsPart levels a g)
    (λ g f levels. recipients_fail (objects_at levels) a g c.if-attribute-eq-RECIPIENTS.true f) c.in_err-recipients_in.field-0.0 c.in_err-recipients_in.ensures.fault)

pub returns-then-attribute-eq-RECIPIENTS-clause-found :
    goal.returns-then-attribute-eq-RECIPIENTS-clause-found
returns-then-attribute-eq-RECIPIENTS-clause-found c = λ levels.
    let a = view c.args.attribute.now in
    let x = c.in_ok-recipients_in.ensures.found in
    let e = c.if-attribute-eq-RECIPIENTS.true in
    record {
      given_part = _;
      means = recipients_mean (objects_at levels) a x.0 e x.1;
      given = ap plain.recipients (sym x.2);
      passed = x.3;
      fits = e;
    }

pub returns-in_ok-push-in-Unknown-clause-found : goal.returns-in_ok-push-in-Unknown-clause-found
returns-in_ok-push-in-Unknown-clause-found c = λ levels.
    let a = view c.args.attribute.now in
    let f = c.in-Unknown.ensures in
    let neither : (ids.is_message_id a.id || ids.is_attachment_id a.id) ≡ false = λ i. f.0 i || f.1 i in
    let m : eqb a.id ids.MESSAGE_PROPS ≡ false = search rules in
    let r : eqb a.id ids.RECIPIENTS ≡ false = search rules in
    record {
      given_part = part plain.no_gift ((true, a.id, a.offset) ∷ []);
      means = nothing_means (objects_at levels) a (part plain.no_gift ((true, a.id, a.offset) ∷ [])) (plain_form (objects_at levels) a false m r c.requires.other neither);
      given = refl;
      passed = c.in_ok-push-in-Unknown.ensures.ok;
      fits = tt;
    }

pub returns-in-Message-clause-found : goal.returns-in-Message-clause-found
returns-in-Message-clause-found c = λ levels.
    let a = view c.args.attribute.now in
    let f = c.in-Message.ensures in
    let one : (ids.is_message_id a.id || ids.is_attachment_id a.id) ≡ true = λ i. f.0 i || f.1 i in
    let m : eqb a.id ids.MESSAGE_PROPS ≡ false = search rules in
    let r : eqb a.id ids.RECIPIENTS ≡ false = search rules in
    record {
      given_part = part plain.no_gift [];
      means = nothing_means (objects_at levels) a (part plain.no_gift []) (plain_form (objects_at levels) a true m r c.requires.other one);
      given = refl;
      passed = sym (append-nil c.args.passed.now);
      fits = tt;
    }

pub returns-in-NewAttachment-clause-found : goal.returns-in-NewAttachment-clause-found
returns-in-NewAttachment-clause-found c = λ levels.
    let a = view c.args.attribute.now in
    let f : a.id ≡ ids.RENDERING = c.in-NewAttachment.ensures in
    let one : (ids.is_message_id a.id || ids.is_attachment_id a.id) ≡ true = rw f refl in
    let m : eqb a.id ids.MESSAGE_PROPS ≡ false = search rules in
    let r : eqb a.id ids.RECIPIENTS ≡ false = search rules in
    record {
      given_part = part plain.no_gift [];
      means = nothing_means (objects_at levels) a (part plain.no_gift []) (plain_form (objects_at levels) a true m r c.requires.other one);
      given = refl;
      passed = sym (append-nil c.args.passed.now);
      fits = tt;
    }

pub returns-in-Attachment-clause-found : goal.returns-in-Attachment-clause-found
returns-in-Attachment-clause-found c = λ levels.
    let a = view c.args.attribute.now in
    let f = c.in-Attachment.ensures in
    let one : (ids.is_message_id a.id || ids.is_attachment_id a.id) ≡ true = λ i. f.0 i || f.1 i in
    let m : eqb a.id ids.MESSAGE_PROPS ≡ false = search rules in
    let r : eqb a.id ids.RECIPIENTS ≡ false = search rules in
    record {
      given_part = part plain.no_gift [];
      means = nothing_means (objects_at levels) a (part plain.no_gift []) (plain_form (objects_at levels) a true m r c.requires.other one);
      given = refl;
      passed = sym (append-nil c.args.passed.now);
      fits = tt;
    }
