use Rattle.std.proofs.Common.{arith}
use Rattle.cfb_list.proofs.NumberedOrder.{ended_cmp}
use Rattle.cfb_list.proofs.views.numbered_order.Goals as goal

pub returns : goal.returns
returns c =
    let e = ended_cmp c.args.front.now c.split_at.result.0.now c.split_at.result.1.now c.args.number (omega (arith, c.split_at.ensures.back_len, c.if-name-lt8.false)) in
    cc (e, c.split_at.ensures.by_index.0, c.then.ensures, c.sibling_order.ensures, c.sibling_order-2.ensures, c.digit_units.ensures)
