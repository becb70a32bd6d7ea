use Rattle.std.proofs.Common.{◌∙◌, ap, sym, arith}
use Rattle.std.specs.Prelude.{Ok, Err}
use Rattle.json_values.specs.View.{items_view}
use Rattle.std.proofs.lemmas.Result.{err_from_is_err_and}
use Rattle.json_model.specs.Properties.{read_bytes}
use Rattle.prop_values.specs.Kinds.{kind_number}
use Rattle.tree_from_json.proofs.Turns.{turn_ok, turn_err, turn_end, list_err, list_long, list_ok}
use Rattle.tree_from_json.proofs.read_lists.read_parts.Goals as goal

pub returns-in_err-under : goal.returns-in_err-under
returns-in_err-under c =
    let p = err_from_is_err_and c.from_residual-in_err-under.result c.from_residual-in_err-under.ensures.1 in
    list_err (λ list. list) (read_bytes (kind_number c.args.kind)) _ _ c.in_err-under.field-0.0 _ (c.in_ok-items.ensures ∙ ap (λ l. Ok (items_view l)) (sym c.unboxed-values.ensures)) (p.1 ∙ ap Err p.2)
    (turn_err (λ v. v.items) (λ list. list) (λ before. read_bytes (kind_number c.args.kind)) c.loop-item.list c.loop-item.item-index _ c.item-item.result c.read_bytes.result c.in_err-under.field-0.0 c.loop-item-test.true c.item-item.is c.read_bytes.ensures (rw c.len-step.ensures at c.in_err-under.ensures) c.loop-item.invariant)

pub loop-item-preserved : goal.loop-item-preserved
loop-item-preserved c =
    turn_ok (λ v. v.items) (λ before. read_bytes (kind_number c.args.kind)) c.loop-item.list c.loop-item.item-index _ c.item-item.result _ c.in_ok-under.field-0 _ c.loop-item-test.true c.item-item.is c.read_bytes.ensures (rw c.len-step.ensures at c.in_ok-under.ensures) c.in_ok-push.ensures.ok c.loop-item.invariant

pub returns-then-len-ge-LIST_LIMIT : goal.returns-then-len-ge-LIST_LIMIT
returns-then-len-ge-LIST_LIMIT c =
    rw c.fault_here.ensures (list_long (read_bytes (kind_number c.args.kind)) _ _ c.loop-item.list (c.in_ok-items.ensures ∙ ap (λ l. Ok (items_view l)) (sym c.unboxed-values.ensures)) (turn_end (λ before. read_bytes (kind_number c.args.kind)) c.loop-item.list c.loop-item.item-index _ (omega (arith, c.loop-item-test.false)) c.loop-item.invariant) (omega (arith, c.if-len-ge-LIST_LIMIT.true, c.len.ensures)))

pub returns : goal.returns
returns c =
    list_ok (read_bytes (kind_number c.args.kind)) _ _ c.loop-item.list (c.in_ok-items.ensures ∙ ap (λ l. Ok (items_view l)) (sym c.unboxed-values.ensures)) (turn_end (λ before. read_bytes (kind_number c.args.kind)) c.loop-item.list c.loop-item.item-index _ (omega (arith, c.loop-item-test.false)) c.loop-item.invariant) (omega (arith, c.if-len-ge-LIST_LIMIT.false, c.len.ensures))
