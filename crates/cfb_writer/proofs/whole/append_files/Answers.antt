use Rattle.std.proofs.Common.{◌++◌, Err, refl}
use Rattle.carrier_io.specs.declared.failures.Failed.{Failed}
use Rattle.carrier_model.specs.Layout.{long_bytes, mini_stream_bytes, mini_table_of, words_bytes}
use Rattle.cfb_writer.specs.Laid.{slots_in}
use Rattle.cfb_layout.specs.Counts.{plan_seen}
use Rattle.cfb_layout.specs.Versions.{sector_of}
use Rattle.carrier_io.proofs.Summed.{sums_both, sums_first, sums_second}
use Rattle.cfb_writer.proofs.whole.append_files.Goals as goal

pub returns-in_err-directory : goal.returns-in_err-directory
returns-in_err-directory g c =
    let z = sector_of c.args.version in
    let p = plan_seen c.args.numbers.now in
    let slots = slots_in c.args.entries.now in
    let m = words_bytes (mini_table_of z p slots) in
    let s = mini_stream_bytes z slots in
    let x = long_bytes z slots in
    sums_first (m ++ (s ++ x)) c.from_residual.ensures.0 c.in_err-directory.ensures

pub returns-in_err-mini_fat : goal.returns-in_err-mini_fat
returns-in_err-mini_fat g c =
    let z = sector_of c.args.version in
    let p = plan_seen c.args.numbers.now in
    let slots = slots_in c.args.entries.now in
    let m = words_bytes (mini_table_of z p slots) in
    let s = mini_stream_bytes z slots in
    let x = long_bytes z slots in
    sums_second c.from_residual-in_err-mini_fat.ensures.0 c.in_ok-directory.ensures (sums_first {r = Err c.in_err-mini_fat.field-0.0} (s ++ x) refl c.in_err-mini_fat.ensures)

pub returns-in_err-mini : goal.returns-in_err-mini
returns-in_err-mini g c =
    let z = sector_of c.args.version in
    let p = plan_seen c.args.numbers.now in
    let slots = slots_in c.args.entries.now in
    let m = words_bytes (mini_table_of z p slots) in
    let s = mini_stream_bytes z slots in
    let x = long_bytes z slots in
    sums_second c.from_residual-in_err-mini.ensures.0 c.in_ok-directory.ensures (sums_second {r = Err c.in_err-mini.field-0.0} refl c.in_ok-mini_fat.ensures (sums_first {r = Err c.in_err-mini.field-0.0} x refl c.in_err-mini.ensures))

pub returns-in_err-long : goal.returns-in_err-long
returns-in_err-long g c =
    sums_second c.from_residual-in_err-long.ensures.0 c.in_ok-directory.ensures (sums_second {r = Err c.in_err-long.field-0.0} refl c.in_ok-mini_fat.ensures (sums_second {r = Err c.in_err-long.field-0.0} refl c.in_ok-mini.ensures c.in_err-long.ensures))

pub returns : goal.returns
returns g c =
    sums_both {F = Failed} _ refl c.in_ok-directory.ensures (sums_both {F = Failed} _ refl c.in_ok-mini_fat.ensures (sums_both {F = Failed} _ refl c.in_ok-mini.ensures c.in_ok-long.ensures))
