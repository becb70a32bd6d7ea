use Rattle.std.proofs.Common.{arith, length}
use Rattle.carrier_model.proofs.Messages.{sum_taken}
use Rattle.msg_tree.proofs.totals.recipient_properties.Goals as goal

pub loop-k-preserved : goal.loop-k-preserved
loop-k-preserved g c =
    let e = sum_taken length c.args.recipients.now c.loop-k.k _ c.get.ensures in
    omega (arith, e, c.len.ensures, c.loop-k.invariant, c.saturating_add-all.ensures)
