use Rattle.std.proofs.Common.{◌≡◌, ℕ, List, Result, Err, sym, subst}
use Rattle.carrier_io.specs.Reasons.{fault_of}
use Rattle.carrier_model.specs.Reasons.{DUPLICATE_PROPERTY}
use Rattle.cfb_sectors.specs.Seen.{stream}
use Rattle.msg_model.specs.MsgProps.{Item, prop_entries}
use Rattle.msg_props.specs.Entries.{streams_in}
use Rattle.msg_props.specs.Scans.{items_of}
use Rattle.msg_props.specs.Sections.{part_of}
use Rattle.msg_props.proofs.DraftForms.{double_fails}
use Rattle.prop_values.specs.Arrivals.{IsDoubleOf}
use Rattle.prop_values.specs.declared.arrivals.SettleEnd.{SettleEnd}
use Rattle.msg_props.proofs.reading.gather.Goals as goal

pub returns-in-Err-Duplicate-clause-fault : goal.returns-in-Err-Duplicate-clause-fault
returns-in-Err-Duplicate-clause-fault c =
    let part = part_of c.args.part in
    let read : Result (List Item) (ℕ × ℕ) = items_of part c.args.names.now (streams_in c.args.files.now c.args.at) (prop_entries part (stream c.args.view.now)) in
    let told : fault_of c.double_at.result ≡ (DUPLICATE_PROPERTY, c.in-Err-Duplicate.offset) = rw c.in-Err-Duplicate.offset-is at c.double_at.ensures in
    subst (λ (h : ℕ × ℕ). read ≡ Err h) (sym told)
    (double_fails read c.scan-scanned.new.draft.arrivals c.in-Err-Duplicate.offset c.scan-scanned.ensures.double
    (λ marks are. subst (λ (e : SettleEnd). IsDoubleOf c.scan-scanned.new.draft.arrivals.props marks e) c.in-Err-Duplicate.field-0-is (c.in-Err-Duplicate.ensures.refused marks are)))
