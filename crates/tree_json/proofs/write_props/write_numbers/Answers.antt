use Rattle.std.proofs.Common.{arith}
use Rattle.json_model.specs.Properties.{number_json}
use Rattle.tree_json.proofs.Lists.{listed_first, listed_init, listed_comma, listed_stops, listed_more, listed_ends}
use Rattle.tree_json.proofs.write_props.write_numbers.Goals as goal

pub returns-in_err-append : goal.returns-in_err-append
returns-in_err-append g c = listed_first number_json c.args.list.now c.from_residual.ensures.0 c.in_err-append.ensures

pub returns-in_err-append-2 : goal.returns-in_err-append-2
returns-in_err-append-2 g c = listed_comma number_json c.args.list.now c.loop-k.k (omega (arith, c.loop-k-test.true, c.len-k-end.ensures)) c.from_residual-in_err-append-2.ensures.0 c.loop-k.invariant (rw c.separator.ensures at c.in_err-append-2.ensures)

pub returns-in_err-append_number : goal.returns-in_err-append_number
returns-in_err-append_number g c = listed_stops number_json c.args.list.now c.loop-k.k _ c.get.ensures c.from_residual-in_err-append_number.ensures.0 c.loop-k.invariant (rw c.separator.ensures at c.in_ok-append-2.ensures) c.in_err-append_number.ensures

pub loop-k-init : goal.loop-k-init
loop-k-init g c = listed_init number_json c.args.list.now c.in_ok-append.ensures

pub loop-k-preserved : goal.loop-k-preserved
loop-k-preserved g c = listed_more number_json c.args.list.now c.loop-k.k _ c.get.ensures c.loop-k.invariant (rw c.separator.ensures at c.in_ok-append-2.ensures) c.in_ok-append_number.ensures

pub returns : goal.returns
returns g c = listed_ends number_json c.args.list.now c.loop-k.k (omega (arith, c.loop-k-test.false, c.len-k-end.ensures)) c.loop-k.invariant c.append-2.ensures
