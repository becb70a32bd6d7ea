use Rattle.std.proofs.Common.{◌≤◌, length, arith}
use Rattle.tree_texts.proofs.Bodies.{next_recipient, no_recipient}
use Rattle.tree_texts.proofs.Partly.{partly_ends, partly_more, partly_stops}
use Rattle.tree_texts.proofs.props.write_recipients.Goals as goal

pub returns-in_err-write_recipient : goal.returns-in_err-write_recipient
returns-in_err-write_recipient g c = partly_stops _ _ (next_recipient c.args.indent c.args.recipients.now c.loop-k.k _ c.get.ensures) c.from_residual.ensures.0 c.loop-k.invariant c.in_err-write_recipient.ensures

pub loop-k-preserved : goal.loop-k-preserved
loop-k-preserved g c = partly_more _ _ (next_recipient c.args.indent c.args.recipients.now c.loop-k.k _ c.get.ensures) c.loop-k.invariant c.in_ok-write_recipient.ensures

pub returns : goal.returns
returns g c =
    let le : length c.args.recipients.now ≤ c.loop-k.k = omega (arith, c.loop-k-test.false, c.len-k-end.ensures) in
    partly_ends (no_recipient c.args.indent c.args.recipients.now c.loop-k.k le) c.loop-k.invariant
