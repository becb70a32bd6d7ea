use Rattle.std.proofs.Common.{subst, arith}
use Rattle.std.specs.Option.{option_map}
use Rattle.std.proofs.lemmas.Result.{err_from_is_err_and}
use Rattle.prop_values.specs.Arrivals.{AreDifferent, Came}
use Rattle.tnef_props.specs.Meaning.{item_of, object_of}
use Rattle.tnef_props.proofs.ListForms.{scanned_fault, passed_none, passed_at_front, count_refuses, filled_none, filled_fail, none_fail, fail_kept, item_added, second_refuses, list_scanned}
use Rattle.tnef_props.proofs.list.scan.Goals as goal

pub returns-in_err-count-clause-fault : goal.returns-in_err-count-clause-fault
returns-in_err-count-clause-fault g c =
    let p = err_from_is_err_and c.from_residual.result c.from_residual.ensures.1 in
    rw (p.1, p.2) (λ different. count_refuses c.args.in_attachment c.args.from c.in_err-count.field-0.0 c.in_err-count.ensures.fault)

pub returns-in_err-count-clause-double : goal.returns-in_err-count-clause-double
returns-in_err-count-clause-double g c = none_fail c.args.in_attachment c.args.from c.args.draft.now c.requires

pub returns-in_err-count-clause-kept : goal.returns-in_err-count-clause-kept
returns-in_err-count-clause-kept g c = passed_none c.args.in_attachment c.args.from.place c.args.from.bytes.now c.args.passed.now

pub loop-k-init : goal.loop-k-init
loop-k-init g c = filled_none c.args.in_attachment c.args.from c.in_ok-count.rest c.in_ok-count.count _ c.args.passed.now (rw c.make_room.ensures c.requires) c.in_ok-count.ensures.found

pub returns-in_err-item-clause-fault : goal.returns-in_err-item-clause-fault
returns-in_err-item-clause-fault g c =
    let p = err_from_is_err_and c.from_residual-in_err-item.result c.from_residual-in_err-item.ensures.1 in
    let l = c.loop-k in
    rw (p.1, p.2) (scanned_fault c.args.in_attachment c.args.from c.in_ok-count.count l._k l.draft.arrivals.props l.invariant.offsets (option_map object_of l.draft.object) c.args.passed.now l.passed l.rest l.invariant.scanned c.loop-k-test.true c.in_err-item.field-0.0 c.in_err-item.ensures.fault)

pub returns-in_err-item-clause-double : goal.returns-in_err-item-clause-double
returns-in_err-item-clause-double g c =
    let l = c.loop-k in
    filled_fail c.args.in_attachment c.args.from c.in_ok-count.count l._k l.draft l.draft c.args.passed.now l.passed l.passed l.rest l.rest l.invariant

pub returns-in_err-item-clause-kept : goal.returns-in_err-item-clause-kept
returns-in_err-item-clause-kept g c =
    let l = c.loop-k in
    passed_at_front c.args.in_attachment c.args.from c.in_ok-count.count l._k l.draft.arrivals.props l.invariant.offsets (option_map object_of l.draft.object) c.args.passed.now l.passed l.rest l.invariant.scanned

pub returns-in_err-add-clause-fault : goal.returns-in_err-add-clause-fault
returns-in_err-add-clause-fault g c =
    let p = err_from_is_err_and c.from_residual-in_err-add.result c.from_residual-in_err-add.ensures.1 in
    let l = c.loop-k in
    let s = c.in_err-add.field-0.0 in
    rw (p.1, p.2) (λ different. second_refuses c.args.in_attachment c.args.from c.in_ok-count.count l._k l.draft l.draft c.args.passed.now l.passed l.passed l.rest c.in_ok-item.after l.invariant c.loop-k-test.true (item_of c.in_ok-item.item) s c.in_ok-item.ensures.found c.in_err-add.ensures.fault
    (subst (λ (z : Came). AreDifferent z.props) c.in_err-add.ensures.same different))

pub returns-in_err-add-clause-double : goal.returns-in_err-add-clause-double
returns-in_err-add-clause-double g c =
    let l = c.loop-k in
    fail_kept c.args.in_attachment c.args.from l.draft.arrivals c.add.new.self.arrivals c.in_err-add.ensures.same
    (filled_fail c.args.in_attachment c.args.from c.in_ok-count.count l._k l.draft l.draft c.args.passed.now l.passed l.passed l.rest l.rest l.invariant)

pub returns-in_err-add-clause-kept : goal.returns-in_err-add-clause-kept
returns-in_err-add-clause-kept g c =
    let l = c.loop-k in
    rw c.in_err-add.ensures.kept (passed_at_front c.args.in_attachment c.args.from c.in_ok-count.count l._k l.draft.arrivals.props l.invariant.offsets (option_map object_of l.draft.object) c.args.passed.now l.passed l.rest l.invariant.scanned)

pub loop-k-preserved : goal.loop-k-preserved
loop-k-preserved g c =
    let l = c.loop-k in
    item_added c.args.in_attachment c.args.from c.in_ok-count.count l._k l.draft c.add.new.self c.args.passed.now l.passed c.add.new.passed l.rest c.in_ok-item.after l.invariant c.loop-k-test.true (item_of c.in_ok-item.item) c.in_ok-item.ensures.found c.in_ok-add.ensures.ok c.in_ok-add.ensures.passed

pub returns-clause-found : goal.returns-clause-found
returns-clause-found g c =
    let l = c.loop-k in
    list_scanned c.args.in_attachment c.args.from c.in_ok-count.count l._k l.draft.arrivals.props l.invariant.offsets (option_map object_of l.draft.object) c.args.passed.now l.passed l.rest l.invariant.scanned (omega (arith, c.loop-k-test.false, l.auto._k-end))

pub returns-clause-double : goal.returns-clause-double
returns-clause-double g c =
    let l = c.loop-k in
    filled_fail c.args.in_attachment c.args.from c.in_ok-count.count l._k l.draft l.draft c.args.passed.now l.passed l.passed l.rest l.rest l.invariant

pub returns-clause-kept : goal.returns-clause-kept
returns-clause-kept g c =
    let l = c.loop-k in
    passed_at_front c.args.in_attachment c.args.from c.in_ok-count.count l._k l.draft.arrivals.props l.invariant.offsets (option_map object_of l.draft.object) c.args.passed.now l.passed l.rest l.invariant.scanned
