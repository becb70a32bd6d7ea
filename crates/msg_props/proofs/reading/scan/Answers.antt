use Rattle.std.proofs.Common.{◌≡◌, ◌+◌, ◌-◌, ◌*◌, ◌/◌, ◌<◌, ℕ, length, ap, subst, ◌∙◌, arith}
use Rattle.std.proofs.lemmas.Result.{err_from_is_err_and}
use Rattle.cfb_sectors.specs.Seen.{bytes_of, stream}
use Rattle.msg_model.specs.MsgProps.{head_size, prop_entry, prop_entries}
use Rattle.msg_model.specs.MsgValues.{PropEntry}
use Rattle.prop_values.specs.Arrivals.{AreDifferent, Came}
use Rattle.msg_props.specs.Entries.{entry_of, streams_in}
use Rattle.msg_props.specs.Items.{item_of}
use Rattle.msg_props.specs.Scans.{items_of}
use Rattle.msg_props.specs.Sections.{part_of}
use Rattle.msg_props.proofs.DraftForms.{filled_none, filled_fail, filled_kept, filled_all, entry_refuses, entry_added, entry_doubled, fail_kept}
use Rattle.msg_props.proofs.reading.scan.Goals as goal

pub loop-k-init : goal.loop-k-init
loop-k-init c =
    let part = part_of c.args.part in
    let view = c.args.view.now in
    filled_none part c.args.names.now (streams_in c.args.files.now c.args.at) (λ k. prop_entry (stream view) (head_size part + 16 * k)) ((length (bytes_of view) - head_size part) / 16) c.args.draft.now c.args.passed.now c.requires.empty

pub returns-in_err-item-clause-fault : goal.returns-in_err-item-clause-fault
returns-in_err-item-clause-fault c =
    let l = c.loop-k in
    let part = part_of c.args.part in
    let view = c.args.view.now in
    let streams = streams_in c.args.files.now c.args.at in
    let entry : ℕ → PropEntry = λ k. prop_entry (stream view) (head_size part + 16 * k) in
    let n : ℕ = (length (bytes_of view) - head_size part) / 16 in
    let lt : l.k < n = omega (arith, c.loop-k-test.true, l.auto.k-end, c.len.ensures, c.head_size-head.ensures) in
    let is : entry_of c.read-entry.result ≡ entry l.k = c.read-entry.ensures ∙ ap (λ (h : ℕ). prop_entry (stream view) (h + 16 * l.k)) c.head_size-head.ensures in
    let p = err_from_is_err_and c.from_residual.result c.from_residual.ensures.1 in
    rw (p.1, p.2) (entry_refuses part c.args.names.now streams entry n l.k l.draft c.args.passed.now l.passed l.invariant lt (entry_of c.read-entry.result) is c.in_err-item.field-0.0 c.in_err-item.ensures)

pub returns-in_err-item-clause-kept : goal.returns-in_err-item-clause-kept
returns-in_err-item-clause-kept c =
    let l = c.loop-k in
    let part = part_of c.args.part in
    let view = c.args.view.now in
    let streams = streams_in c.args.files.now c.args.at in
    let entry : ℕ → PropEntry = λ k. prop_entry (stream view) (head_size part + 16 * k) in
    let n : ℕ = (length (bytes_of view) - head_size part) / 16 in
    let lt : l.k < n = omega (arith, c.loop-k-test.true, l.auto.k-end, c.len.ensures, c.head_size-head.ensures) in
    filled_kept part c.args.names.now streams entry n l.k l.draft c.args.passed.now l.passed l.invariant (omega (arith, lt))

pub returns-in_err-add-clause-fault : goal.returns-in_err-add-clause-fault
returns-in_err-add-clause-fault c =
    let l = c.loop-k in
    let part = part_of c.args.part in
    let view = c.args.view.now in
    let streams = streams_in c.args.files.now c.args.at in
    let entry : ℕ → PropEntry = λ k. prop_entry (stream view) (head_size part + 16 * k) in
    let n : ℕ = (length (bytes_of view) - head_size part) / 16 in
    let lt : l.k < n = omega (arith, c.loop-k-test.true, l.auto.k-end, c.len.ensures, c.head_size-head.ensures) in
    let is : entry_of c.read-entry.result ≡ entry l.k = c.read-entry.ensures ∙ ap (λ (h : ℕ). prop_entry (stream view) (h + 16 * l.k)) c.head_size-head.ensures in
    let p = err_from_is_err_and c.from_residual-in_err-add.result c.from_residual-in_err-add.ensures.1 in
    rw (p.1, p.2) (λ different. entry_doubled part c.args.names.now streams entry n l.k l.draft c.args.passed.now l.passed l.invariant lt (entry_of c.read-entry.result) is (item_of (entry_of c.read-entry.result) c.in_ok-item.item) c.in_err-add.field-0.0 c.in_ok-item.ensures c.in_err-add.ensures.fault
    (subst (λ (z : Came). AreDifferent z.props) c.in_err-add.ensures.same different))

pub returns-in_err-add-clause-double : goal.returns-in_err-add-clause-double
returns-in_err-add-clause-double c =
    let l = c.loop-k in
    let part = part_of c.args.part in
    let view = c.args.view.now in
    let streams = streams_in c.args.files.now c.args.at in
    let entry : ℕ → PropEntry = λ k. prop_entry (stream view) (head_size part + 16 * k) in
    let n : ℕ = (length (bytes_of view) - head_size part) / 16 in
    fail_kept (items_of part c.args.names.now streams (prop_entries part (stream view))) l.draft.arrivals c.add.new.self.arrivals c.in_err-add.ensures.same
    (filled_fail part c.args.names.now streams entry n l.k l.draft c.args.passed.now l.passed l.invariant)

pub returns-in_err-add-clause-kept : goal.returns-in_err-add-clause-kept
returns-in_err-add-clause-kept c =
    let l = c.loop-k in
    let part = part_of c.args.part in
    let view = c.args.view.now in
    let streams = streams_in c.args.files.now c.args.at in
    let entry : ℕ → PropEntry = λ k. prop_entry (stream view) (head_size part + 16 * k) in
    let n : ℕ = (length (bytes_of view) - head_size part) / 16 in
    let lt : l.k < n = omega (arith, c.loop-k-test.true, l.auto.k-end, c.len.ensures, c.head_size-head.ensures) in
    rw c.in_err-add.ensures.kept (filled_kept part c.args.names.now streams entry n l.k l.draft c.args.passed.now l.passed l.invariant (omega (arith, lt)))

pub loop-k-preserved : goal.loop-k-preserved
loop-k-preserved c =
    let l = c.loop-k in
    let part = part_of c.args.part in
    let view = c.args.view.now in
    let streams = streams_in c.args.files.now c.args.at in
    let entry : ℕ → PropEntry = λ k. prop_entry (stream view) (head_size part + 16 * k) in
    let n : ℕ = (length (bytes_of view) - head_size part) / 16 in
    let lt : l.k < n = omega (arith, c.loop-k-test.true, l.auto.k-end, c.len.ensures, c.head_size-head.ensures) in
    let is : entry_of c.read-entry.result ≡ entry l.k = c.read-entry.ensures ∙ ap (λ (h : ℕ). prop_entry (stream view) (h + 16 * l.k)) c.head_size-head.ensures in
    entry_added part c.args.names.now streams entry n l.k l.draft c.args.passed.now l.passed l.invariant lt (entry_of c.read-entry.result) is c.add.new.self c.add.new.passed (item_of (entry_of c.read-entry.result) c.in_ok-item.item) c.in_ok-item.ensures c.in_ok-add.ensures.ok c.in_ok-add.ensures.passed

pub returns-clause-found : goal.returns-clause-found
returns-clause-found c =
    let l = c.loop-k in
    let part = part_of c.args.part in
    let view = c.args.view.now in
    let streams = streams_in c.args.files.now c.args.at in
    let entry : ℕ → PropEntry = λ k. prop_entry (stream view) (head_size part + 16 * k) in
    let n : ℕ = (length (bytes_of view) - head_size part) / 16 in
    let end : l.k ≡ n = omega (arith, c.loop-k-test.false, l.auto.k-end, c.len.ensures, c.head_size-head.ensures) in
    filled_all part c.args.names.now streams entry n l.k l.draft c.args.passed.now l.passed l.invariant end

pub returns-clause-kept : goal.returns-clause-kept
returns-clause-kept c =
    let l = c.loop-k in
    let part = part_of c.args.part in
    let view = c.args.view.now in
    let streams = streams_in c.args.files.now c.args.at in
    let entry : ℕ → PropEntry = λ k. prop_entry (stream view) (head_size part + 16 * k) in
    let n : ℕ = (length (bytes_of view) - head_size part) / 16 in
    let end : l.k ≡ n = omega (arith, c.loop-k-test.false, l.auto.k-end, c.len.ensures, c.head_size-head.ensures) in
    filled_kept part c.args.names.now streams entry n l.k l.draft c.args.passed.now l.passed l.invariant (omega (arith, end))
