use Rattle.std.proofs.Common.{arith}
use Rattle.std.proofs.lemmas.Result.{err_from_is_err_and}
use Rattle.tnef_props.specs.ReadLists.{list_seen}
use Rattle.tnef_message.proofs.Tables.{no_count, rows_none, rows_more, rows_stop, rows_all}
use Rattle.tnef_message.proofs.contents.recipients_in.Goals as goal

pub returns-then-bytes-lt4-clause-fault : goal.returns-then-bytes-lt4-clause-fault
returns-then-bytes-lt4-clause-fault c = no_count c.args.at c.args.bytes.now c.if-bytes-lt4.true

pub loop-k-init : goal.loop-k-init
loop-k-init c = rw c.in_ok-recipients.ensures (rows_none c.args.at c.u32_at-count.result c.args.bytes.now c.args.passed.now (omega arith) c.u32_at-count.ensures)

pub returns-in_err-list-clause-fault : goal.returns-in_err-list-clause-fault
returns-in_err-list-clause-fault c =
    let p = err_from_is_err_and c.from_residual-in_err-list.result c.from_residual-in_err-list.ensures.1 in
    let l = c.loop-k in
    rw (p.1, p.2) (rows_stop c.args.at c.args.bytes.now c.u32_at-count.result l._k l.recipients c.args.passed.now l.passed l.from l.invariant c.loop-k-test.true c.in_err-list.field-0.0 c.in_err-list.ensures.fault)

pub loop-k-preserved : goal.loop-k-preserved
loop-k-preserved c =
    let l = c.loop-k in
    let x = c.in_ok-list.ensures.found in
    rows_more c.args.at c.args.bytes.now c.u32_at-count.result l._k l.recipients c.args.passed.now l.passed l.from l.invariant c.loop-k-test.true (list_seen c.in_ok-list.list x.more) c.in_ok-list.list.end c.push.new.self c.read_list.new.passed x.spans c.in_ok-push.ensures.ok x.passed

pub returns-clause-found : goal.returns-clause-found
returns-clause-found c =
    let l = c.loop-k in
    rows_all c.args.at c.args.bytes.now c.u32_at-count.result l._k l.recipients c.args.passed.now l.passed l.from l.invariant (omega (arith, c.loop-k-test.false, l.auto._k-end))
