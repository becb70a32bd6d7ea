use Rattle.std.proofs.Common.{◌≡◌, ◌∙◌, ◌-◌, ◌<◌, ◌∷◌, [], true, sym, ap, subst, length, length-append, arith, List, ℕ, Vec, Global}
use Rattle.std.specs.Prelude.{Ok, Err}
use Rattle.std.proofs.lemmas.Result.{err_from_is_err_and}
use Rattle.json_values.specs.View.{view, items_view}
use Rattle.json_model.specs.MessageForms.{MESSAGE, read_attachment, read_within}
use Rattle.json_model.specs.Parts.{has_members, read_each}
use Rattle.json_model.specs.Properties.{read_props}
use Rattle.msg_tree.specs.Meaning.{tree_of, list_of, attached_of}
use Rattle.tree_from_json.proofs.Reading.{under_ok, under_err}
use Rattle.tree_from_json.proofs.Turns.{turn_ok, turn_err, array_err}
use Rattle.tree_from_json.specs.Ends.{ReadsBelow}
use Rattle.carrier_model.specs.Tree.{Attached}
use Rattle.tree_from_json.proofs.WholeMessages.{attachments_err, props_err, recipients_err, message_read, message_rolled}
use Rattle.tree_from_json.proofs.read_messages.+reading.Goals as goal

abbrev items_of : Vec ℕ Global → List ℕ
items_of b = b.items

pub read_attachments-loop-k-preserved : goal.read_attachments-loop-k-preserved
read_attachments-loop-k-preserved t c =
    let read = read_attachment (read_within c.args.levels) in
    let all = list_of items_of c.loop-k.all in
    let x = attached_of items_of c.in_ok-attachment.attachment in
    let n = c.loop-k.invariant.count in
    let added = ap (λ (l : List Attached). length l) c.in_ok-push.ensures.ok in
    let more = length-append all (x ∷ []) in
    let below = subst (λ k. ReadsBelow k c.read_attachment.result (Ok c.in_ok-attachment.attachment)) (sym n) c.in_ok-attachment.ensures in
    record {
      count = omega (arith, n, added, more);
      turns = turn_ok (attached_of items_of) (λ before. read) all c.loop-k.k c.unboxed-values.result.now c.index-values-k.result c.read_attachment.result c.in_ok-attachment.attachment _ (omega (arith, c.loop-k-test.true)) c.index-values-k.is c.read_attachment.ensures below c.in_ok-push.ensures.ok c.loop-k.invariant.turns;
    }

pub read_attachments-returns-in_err-attachment : goal.read_attachments-returns-in_err-attachment
read_attachments-returns-in_err-attachment t c =
    let p = err_from_is_err_and c.from_residual-in_err-attachment.result c.from_residual-in_err-attachment.ensures.1 in
    let read = read_attachment (read_within c.args.levels) in
    let e = c.in_err-attachment.field-0.0 in
    let below = subst (λ k. ReadsBelow k c.read_attachment.result (Err e)) (sym c.loop-k.invariant.count) c.in_err-attachment.ensures in
    let found = (c.in_ok-items.ensures ∙ ap (λ l. Ok (items_view l)) (sym c.unboxed-values.ensures)) in
    array_err (list_of items_of) (λ before. read) (view c.args.value.now) _ e _ found (p.1 ∙ ap Err p.2)
    (turn_err (attached_of items_of) (list_of items_of) (λ before. read) (list_of items_of c.loop-k.all) c.loop-k.k c.unboxed-values.result.now c.index-values-k.result c.read_attachment.result e (omega (arith, c.loop-k-test.true)) c.index-values-k.is c.read_attachment.ensures below c.loop-k.invariant.turns)

pub read_message-returns-in_err-attachments-2 : goal.read_message-returns-in_err-attachments-2
read_message-returns-in_err-attachments-2 t c =
    let p = err_from_is_err_and c.from_residual-in_err-attachments-2.result c.from_residual-in_err-attachments-2.ensures.1 in
    let v = view c.args.value.now in
    let a = view c.in_ok-attachments.attachments.now in
    let some : 0 < c.args.levels = omega (arith, c.if-levels-eq0.false) in
    let has : has_members MESSAGE v ≡ true = sym c.has_members.ensures ∙ c.if-not-has_members.false in
    let list = read_each (read_attachment (read_within (c.args.levels - 1))) a in
    let fails = under_err (list_of items_of) list 0 c.read_attachments.result c.in_err-attachments-2.field-0.0 c.read_attachments.ensures c.in_err-attachments-2.ensures in
    rw (p.1, p.2) (attachments_err c.args.levels v some has a c.in_ok-attachments.ensures (list_of items_of) (tree_of items_of) c.in_err-attachments-2.field-0.0 fails)

pub read_message-returns-in_err-props : goal.read_message-returns-in_err-props
read_message-returns-in_err-props t c =
    let p = err_from_is_err_and c.from_residual-in_err-props.result c.from_residual-in_err-props.ensures.1 in
    let v = view c.args.value.now in
    let a = view c.in_ok-attachments.attachments.now in
    let some : 0 < c.args.levels = omega (arith, c.if-levels-eq0.false) in
    let has : has_members MESSAGE v ≡ true = sym c.has_members.ensures ∙ c.if-not-has_members.false in
    let list = read_each (read_attachment (read_within (c.args.levels - 1))) a in
    let xs = list_of items_of c.in_ok-attachments-2.attachments in
    let are = under_ok (list_of items_of) list 0 c.read_attachments.result c.in_ok-attachments-2.attachments c.read_attachments.ensures c.in_ok-attachments-2.ensures in
    let b = view c.in_ok-properties.properties.now in
    let fails = under_err (λ props. props) (read_props b) 1 c.read_props.result c.in_err-props.field-0.0 c.read_props.ensures c.in_err-props.ensures in
    rw (p.1, p.2) (props_err c.args.levels v some has a c.in_ok-attachments.ensures xs are b c.in_ok-properties.ensures (λ props. props) (tree_of items_of) c.in_err-props.field-0.0 fails)

pub read_message-returns-in_err-recipients-2 : goal.read_message-returns-in_err-recipients-2
read_message-returns-in_err-recipients-2 t c =
    let p = err_from_is_err_and c.from_residual-in_err-recipients-2.result c.from_residual-in_err-recipients-2.ensures.1 in
    let v = view c.args.value.now in
    let a = view c.in_ok-attachments.attachments.now in
    let some : 0 < c.args.levels = omega (arith, c.if-levels-eq0.false) in
    let has : has_members MESSAGE v ≡ true = sym c.has_members.ensures ∙ c.if-not-has_members.false in
    let list = read_each (read_attachment (read_within (c.args.levels - 1))) a in
    let xs = list_of items_of c.in_ok-attachments-2.attachments in
    let are = under_ok (list_of items_of) list 0 c.read_attachments.result c.in_ok-attachments-2.attachments c.read_attachments.ensures c.in_ok-attachments-2.ensures in
    let b = view c.in_ok-properties.properties.now in
    let own = under_ok (λ props. props) (read_props b) 1 c.read_props.result c.in_ok-props.props c.read_props.ensures c.in_ok-props.ensures in
    let d = view c.in_ok-recipients.recipients.now in
    let fails = under_err (λ all. all) (read_each read_props d) 2 c.read_recipients.result c.in_err-recipients-2.field-0.0 c.read_recipients.ensures c.in_err-recipients-2.ensures in
    rw (p.1, p.2) (recipients_err c.args.levels v some has a c.in_ok-attachments.ensures xs are b c.in_ok-properties.ensures c.in_ok-props.props own d c.in_ok-recipients.ensures (λ all. all) (tree_of items_of) c.in_err-recipients-2.field-0.0 fails)

pub read_message-returns : goal.read_message-returns
read_message-returns t c =
    let v = view c.args.value.now in
    let a = view c.in_ok-attachments.attachments.now in
    let some : 0 < c.args.levels = omega (arith, c.if-levels-eq0.false) in
    let has : has_members MESSAGE v ≡ true = sym c.has_members.ensures ∙ c.if-not-has_members.false in
    let list = read_each (read_attachment (read_within (c.args.levels - 1))) a in
    let xs = list_of items_of c.in_ok-attachments-2.attachments in
    let are = under_ok (list_of items_of) list 0 c.read_attachments.result c.in_ok-attachments-2.attachments c.read_attachments.ensures c.in_ok-attachments-2.ensures in
    let b = view c.in_ok-properties.properties.now in
    let own = under_ok (λ props. props) (read_props b) 1 c.read_props.result c.in_ok-props.props c.read_props.ensures c.in_ok-props.ensures in
    let d = view c.in_ok-recipients.recipients.now in
    let who = under_ok (λ all. all) (read_each read_props d) 2 c.read_recipients.result c.in_ok-recipients-2.recipients c.read_recipients.ensures c.in_ok-recipients-2.ensures in
    message_read c.args.levels v some has a c.in_ok-attachments.ensures xs are b c.in_ok-properties.ensures c.in_ok-props.props own d c.in_ok-recipients.ensures c.in_ok-recipients-2.recipients who
    ∙ ap Ok (sym (message_rolled items_of _))
