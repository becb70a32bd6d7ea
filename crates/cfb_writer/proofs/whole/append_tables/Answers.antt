use Rattle.std.proofs.Common.{◌++◌, Err, refl}
use Rattle.carrier_io.specs.declared.failures.Failed.{Failed}
use Rattle.carrier_model.specs.Layout.{difat_bytes, table_of, words_bytes}
use Rattle.cfb_writer.specs.Laid.{slots_in}
use Rattle.cfb_layout.specs.Counts.{plan_seen}
use Rattle.cfb_layout.specs.Versions.{sector_of}
use Rattle.carrier_io.proofs.Summed.{sums_both, sums_first, sums_second}
use Rattle.cfb_writer.proofs.whole.append_tables.Goals as goal

pub returns-in_err-header : goal.returns-in_err-header
returns-in_err-header g c =
    let z = sector_of c.args.version in
    let p = plan_seen c.args.numbers.now in
    let slots = slots_in c.args.entries.now in
    sums_first (words_bytes (table_of z p slots) ++ difat_bytes z p) c.from_residual.ensures.0 c.in_err-header.ensures

pub returns-in_err-fat : goal.returns-in_err-fat
returns-in_err-fat g c =
    let z = sector_of c.args.version in
    let p = plan_seen c.args.numbers.now in
    let slots = slots_in c.args.entries.now in
    sums_second c.from_residual-in_err-fat.ensures.0 c.in_ok-header.ensures (sums_first {r = Err c.in_err-fat.field-0.0} (difat_bytes z p) refl c.in_err-fat.ensures)

pub returns-in_err-difat : goal.returns-in_err-difat
returns-in_err-difat g c = sums_second c.from_residual-in_err-difat.ensures.0 c.in_ok-header.ensures (sums_second {r = Err c.in_err-difat.field-0.0} refl c.in_ok-fat.ensures c.in_err-difat.ensures)

pub returns : goal.returns
returns g c = sums_both {F = Failed} _ refl c.in_ok-header.ensures (sums_both {F = Failed} _ refl c.in_ok-fat.ensures c.in_ok-difat.ensures)
