use Rattle.std.proofs.Common.{◌-◌, ◌*◌, ◌/◌, ℕ, refl, ap}
use Rattle.std.specs.Prelude.{replicate}
use Rattle.carrier_io.specs.declared.failures.Failed.{Failed}
use Rattle.carrier_model.specs.Layout.{FREE, words_bytes}
use Rattle.cfb_writer.specs.Laid.{slots_in}
use Rattle.cfb_layout.specs.Counts.{plan_seen}
use Rattle.cfb_layout.specs.Versions.{sector_of}
use Rattle.cfb_writer.proofs.Going.{as_bytes}
use Rattle.carrier_io.proofs.Summed.{sums_both, sums_first, sums_second}
use Rattle.cfb_writer.proofs.Tables.{mini_table_is}
use Rattle.cfb_writer.proofs.table.append_mini_fat.Goals as goal

pub returns-in_err-chains : goal.returns-in_err-chains
returns-in_err-chains g c =
    let z = sector_of c.args.version in
    let p = plan_seen c.args.numbers.now in
    let slots = slots_in c.args.entries.now in
    let free = z / 4 * p.sizes.mini_fat - p.sizes.mini_sectors in
    let all = mini_table_is z p slots free c.requires.plan refl in
    as_bytes all (sums_first (words_bytes (replicate {A = ℕ} free FREE)) c.from_residual.ensures.0 c.in_err-chains.ensures)

pub returns-in_err-free : goal.returns-in_err-free
returns-in_err-free g c =
    let z = sector_of c.args.version in
    let p = plan_seen c.args.numbers.now in
    let slots = slots_in c.args.entries.now in
    let free = z / 4 * p.sizes.mini_fat - p.sizes.mini_sectors in
    let all = mini_table_is z p slots free c.requires.plan refl in
    let last = as_bytes (ap (λ (w : ℕ). words_bytes (replicate {A = ℕ} (w * p.sizes.mini_fat - p.sizes.mini_sectors) FREE)) c.words.ensures) c.in_err-free.ensures in
    as_bytes all (sums_second c.from_residual-in_err-free.ensures.0 c.in_ok-chains.ensures last)

pub returns : goal.returns
returns g c =
    let z = sector_of c.args.version in
    let p = plan_seen c.args.numbers.now in
    let slots = slots_in c.args.entries.now in
    let free = z / 4 * p.sizes.mini_fat - p.sizes.mini_sectors in
    let all = mini_table_is z p slots free c.requires.plan refl in
    let last = as_bytes (ap (λ (w : ℕ). words_bytes (replicate {A = ℕ} (w * p.sizes.mini_fat - p.sizes.mini_sectors) FREE)) c.words.ensures) c.in_ok-free.ensures in
    as_bytes all (sums_both {F = Failed} _ refl c.in_ok-chains.ensures last)
