use Rattle.std.proofs.Common.{◌++◌, refl}
use Rattle.carrier_io.specs.declared.failures.Failed.{Failed}
use Rattle.carrier_model.specs.Layout.{difat_bytes, directory_bytes, header_bytes, long_bytes, mini_stream_bytes, mini_table_of, table_of, words_bytes}
use Rattle.cfb_writer.specs.Laid.{slots_in}
use Rattle.cfb_layout.specs.Counts.{plan_seen}
use Rattle.cfb_layout.specs.Versions.{sector_of}
use Rattle.cfb_writer.proofs.Going.{as_bytes}
use Rattle.carrier_io.proofs.Summed.{sums_both, sums_first, sums_second}
use Rattle.cfb_writer.proofs.Joins.{parts_are}
use Rattle.cfb_writer.proofs.whole.append_file.Goals as goal

pub returns-in_err-tables : goal.returns-in_err-tables
returns-in_err-tables g c =
    let z = sector_of c.args.version in
    let p = plan_seen c.args.numbers.now in
    let slots = slots_in c.args.entries.now in
    let rest = directory_bytes z p slots ++ (words_bytes (mini_table_of z p slots) ++ (mini_stream_bytes z slots ++ long_bytes z slots)) in
    let all = parts_are (header_bytes z p) (words_bytes (table_of z p slots)) (difat_bytes z p) rest in
    as_bytes all (sums_first rest c.from_residual.ensures.0 c.in_err-tables.ensures)

pub returns-in_err-files : goal.returns-in_err-files
returns-in_err-files g c =
    let z = sector_of c.args.version in
    let p = plan_seen c.args.numbers.now in
    let slots = slots_in c.args.entries.now in
    let rest = directory_bytes z p slots ++ (words_bytes (mini_table_of z p slots) ++ (mini_stream_bytes z slots ++ long_bytes z slots)) in
    let all = parts_are (header_bytes z p) (words_bytes (table_of z p slots)) (difat_bytes z p) rest in
    as_bytes all (sums_second c.from_residual-in_err-files.ensures.0 c.in_ok-tables.ensures c.in_err-files.ensures)

pub returns : goal.returns
returns g c =
    let z = sector_of c.args.version in
    let p = plan_seen c.args.numbers.now in
    let slots = slots_in c.args.entries.now in
    let rest = directory_bytes z p slots ++ (words_bytes (mini_table_of z p slots) ++ (mini_stream_bytes z slots ++ long_bytes z slots)) in
    let all = parts_are (header_bytes z p) (words_bytes (table_of z p slots)) (difat_bytes z p) rest in
    as_bytes all (sums_both {F = Failed} _ refl c.in_ok-tables.ensures c.in_ok-files.ensures)
