use Rattle.std.proofs.Common.{true, false, arith}
use Rattle.carrier_model.proofs.ChainLaws.{member-after, Marks-swap}
use Rattle.carrier_model.specs.Marks.{mark_all}
use Rattle.carrier_model.proofs.MarkLaws.{unmarked-le}
use Rattle.carrier_model.proofs.ChainEnds.{chain_of-fault, chain_of-short, chain_of-ok}
use Rattle.cfb_sectors.proofs.chains.take_chain.Goals as goal

pub returns-then-stop-clause-answer : goal.returns-then-stop-clause-answer
returns-then-stop-clause-answer c = λ earlier h.
    let why = c.stop_reason-reason.ensures earlier (rw (c.deref-then-stop.ensures.value, c.in_ok-chain.ensures.marked) (member-after c.args.limits.bound c.args.limits.whole c.args.marks.now earlier c.in_ok-chain.field-0.chain.items h c.requires.in_marks c.in_ok-chain.ensures.stops.free)) in
    chain_of-fault _ _ _ _ _ _ _ _ earlier _ _ _ _ h c.requires.in_marks c.in_ok-chain.ensures.stops c.if-stop.true (rw c.deref-then-stop.ensures.value at why) (rw c.deref.ensures.value at c.named_at-offset.ensures)

pub returns-then-len-limits-clause-answer : goal.returns-then-len-limits-clause-answer
returns-then-len-limits-clause-answer c = λ earlier h.
    chain_of-short _ _ _ _ _ _ _ _ earlier _ _ _ h c.requires.in_marks c.in_ok-chain.ensures.stops c.if-stop.false (omega arith) (rw c.deref.ensures.value at c.named_at-offset.ensures)

pub returns-clause-answer : goal.returns-clause-answer
returns-clause-answer c = λ earlier h.
    chain_of-ok _ _ _ _ _ _ _ _ earlier _ _ h c.requires.in_marks c.in_ok-chain.ensures.stops c.if-stop.false (omega arith)

pub returns-clause-marked : goal.returns-clause-marked
returns-clause-marked c = λ earlier h.
    rw c.in_ok-chain.ensures.marked (Marks-swap (mark_all c.args.marks.now c.in_ok-chain.field-0.chain.items) c.in_ok-chain.field-0.chain.items earlier (member-after c.args.limits.bound c.args.limits.whole c.args.marks.now earlier c.in_ok-chain.field-0.chain.items h c.requires.in_marks c.in_ok-chain.ensures.stops.free))

pub returns-clause-few : goal.returns-clause-few
returns-clause-few c = omega (arith, c.in_ok-chain.ensures.few, unmarked-le c.args.marks.now)
