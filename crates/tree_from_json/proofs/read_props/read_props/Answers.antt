use Rattle.std.proofs.Common.{◌∙◌, ap, sym, arith}
use Rattle.std.specs.Prelude.{Ok, Err}
use Rattle.json_values.specs.View.{items_view}
use Rattle.std.proofs.lemmas.Result.{err_from_is_err_and}
use Rattle.json_model.specs.Properties.{read_next_prop}
use Rattle.tree_from_json.proofs.Turns.{turn_ok, turn_err, turn_end, array_err, array_ok}
use Rattle.tree_from_json.proofs.read_props.read_props.Goals as goal

pub returns-in_err-prop : goal.returns-in_err-prop
returns-in_err-prop c =
    let p = err_from_is_err_and c.from_residual-in_err-prop.result c.from_residual-in_err-prop.ensures.1 in
    array_err (λ props. props) read_next_prop _ _ c.in_err-prop.field-0.0 _ (c.in_ok-items.ensures ∙ ap (λ l. Ok (items_view l)) (sym c.unboxed-values.ensures)) (p.1 ∙ ap Err p.2)
    (turn_err (λ prop. prop) (λ props. props) read_next_prop c.loop-item.props c.loop-item.item-index _ c.item-item.result c.read_next_prop.result c.in_err-prop.field-0.0 c.loop-item-test.true c.item-item.is c.read_next_prop.ensures.read (rw c.len-step.ensures at c.in_err-prop.ensures) c.loop-item.invariant.turn)

pub loop-item-preserved : goal.loop-item-preserved
loop-item-preserved c = record {
  turn = turn_ok (λ prop. prop) read_next_prop c.loop-item.props c.loop-item.item-index _ c.item-item.result _ c.in_ok-prop.prop _ c.loop-item-test.true c.item-item.is c.read_next_prop.ensures.read (rw c.len-step.ensures at c.in_ok-prop.ensures) c.in_ok-push_prop.ensures.pushed c.loop-item.invariant.turn;
  sorted = c.push_prop.ensures.sorted;
}

pub returns : goal.returns
returns c = array_ok read_next_prop _ _ c.loop-item.props (c.in_ok-items.ensures ∙ ap (λ l. Ok (items_view l)) (sym c.unboxed-values.ensures)) (turn_end read_next_prop c.loop-item.props c.loop-item.item-index _ (omega (arith, c.loop-item-test.false)) c.loop-item.invariant.turn)
