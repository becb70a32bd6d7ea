use Rattle.std.proofs.Common.{◌≡◌, ℕ, subst, sym}
use Rattle.carrier_io.specs.Reasons.{fault_of}
use Rattle.carrier_model.specs.Reasons.{DUPLICATE_LIST_PROPERTY}
use Rattle.prop_values.specs.Arrivals.{IsDoubleOf}
use Rattle.prop_values.specs.declared.arrivals.SettleEnd.{SettleEnd}
use Rattle.tnef_model.specs.TnefLists.{prop_list}
use Rattle.tnef_props.proofs.ListForms.{double_fails}
use Rattle.tnef_props.proofs.list.gather.Goals as goal

pub returns-in-Err-Duplicate-clause-fault : goal.returns-in-Err-Duplicate-clause-fault
returns-in-Err-Duplicate-clause-fault g c =
    let told : fault_of c.double_at.result ≡ (DUPLICATE_LIST_PROPERTY, c.in-Err-Duplicate.offset) = rw c.in-Err-Duplicate.offset-is at c.double_at.ensures in
    subst (λ (h : ℕ × ℕ). (prop_list c.args.in_attachment).fails c.args.from.place c.args.from.bytes.now h) (sym told)
    (double_fails c.args.in_attachment c.args.from c.scan-scanned.new.draft.arrivals c.in-Err-Duplicate.offset c.scan-scanned.ensures.double
    (λ offsets marks. subst (λ (e : SettleEnd). IsDoubleOf c.scan-scanned.new.draft.arrivals.props offsets e) c.in-Err-Duplicate.field-0-is (c.in-Err-Duplicate.ensures.refused offsets marks)))
