use Rattle.std.proofs.Common.{arith}
use Rattle.json_model.specs.Properties.{props_json}
use Rattle.tree_json.specs.Wholes.{IsWholeList}
use Rattle.tree_json.proofs.Lists.{listed_first, listed_init, listed_comma, listed_stops, listed_more, listed_ends}
use Rattle.tree_json.proofs.Wholes.{on_ok, whole_more, whole_all}
use Rattle.tree_json.proofs.write_messages.write_recipients.Goals as goal

pub returns-in_err-append-clause-json : goal.returns-in_err-append-clause-json
returns-in_err-append-clause-json g c = listed_first props_json c.args.recipients.now c.from_residual.ensures.0 c.in_err-append.ensures

pub returns-in_err-append-2-clause-json : goal.returns-in_err-append-2-clause-json
returns-in_err-append-2-clause-json g c = listed_comma props_json c.args.recipients.now c.loop-k.k (omega (arith, c.loop-k-test.true, c.len-k-end.ensures)) c.from_residual-in_err-append-2.ensures.0 c.loop-k.invariant.0 (rw c.separator.ensures at c.in_err-append-2.ensures)

pub returns-in_err-write_props-clause-json : goal.returns-in_err-write_props-clause-json
returns-in_err-write_props-clause-json g c = listed_stops props_json c.args.recipients.now c.loop-k.k _ c.get.ensures c.from_residual-in_err-write_props.ensures.0 c.loop-k.invariant.0 (rw c.separator.ensures at c.in_ok-append-2.ensures) c.in_err-write_props.ensures.json

pub loop-k-init : goal.loop-k-init
loop-k-init g c = (listed_init props_json c.args.recipients.now c.in_ok-append.ensures, tt)

pub loop-k-preserved : goal.loop-k-preserved
loop-k-preserved g c = (
  listed_more props_json c.args.recipients.now c.loop-k.k _ c.get.ensures c.loop-k.invariant.0 (rw c.separator.ensures at c.in_ok-append-2.ensures) c.in_ok-write_props.ensures.json,
  whole_more IsWholeList _ _ _ c.loop-k.invariant.1 c.get.ensures c.in_ok-write_props.ensures.whole,
)

pub returns-clause-json : goal.returns-clause-json
returns-clause-json g c = listed_ends props_json c.args.recipients.now c.loop-k.k (omega (arith, c.loop-k-test.false, c.len-k-end.ensures)) c.loop-k.invariant.0 c.append-2.ensures

pub returns-clause-whole : goal.returns-clause-whole
returns-clause-whole g c = on_ok c.append-2.result (whole_all IsWholeList _ _ c.loop-k.invariant.1 (omega (arith, c.loop-k-test.false, c.len-k-end.ensures)))
