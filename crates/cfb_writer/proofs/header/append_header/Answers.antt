use Rattle.std.proofs.Common.{◌-◌, ◌++◌, ℕ, Err, refl, ap}
use Rattle.std.specs.Prelude.{replicate}
use Rattle.carrier_io.specs.declared.failures.Failed.{Failed}
use Rattle.carrier_model.specs.Layout.{header_list}
use Rattle.cfb_layout.specs.Counts.{plan_seen}
use Rattle.cfb_layout.specs.Versions.{sector_of}
use Rattle.cfb_writer.proofs.Going.{as_bytes}
use Rattle.cfb_writer.proofs.HeaderList.{list_is}
use Rattle.carrier_io.proofs.Summed.{sums_both, sums_first, sums_second}
use Rattle.cfb_writer.proofs.header.append_header.Goals as goal

pub returns-in_err-counts : goal.returns-in_err-counts
returns-in_err-counts g c = sums_first (header_list (plan_seen c.args.numbers.now) ++ replicate {A = ℕ} (sector_of c.args.version - 512) 0) c.from_residual.ensures.0 c.in_err-counts.ensures

pub returns-in_err-list : goal.returns-in_err-list
returns-in_err-list g c =
    let list = as_bytes (list_is c.args.numbers.now.fat c.min-listed.result c.min-listed.ensures) c.in_err-list.ensures in
    sums_second c.from_residual-in_err-list.ensures.0 c.in_ok-counts.ensures (sums_first {r = Err c.in_err-list.field-0.0} (replicate {A = ℕ} (sector_of c.args.version - 512) 0) refl list)

pub returns-in_err-zeros : goal.returns-in_err-zeros
returns-in_err-zeros g c =
    let list = as_bytes (list_is c.args.numbers.now.fat c.min-listed.result c.min-listed.ensures) c.in_ok-list.ensures in
    let zeros = as_bytes (ap (λ (z : ℕ). replicate {A = ℕ} (z - 512) 0) c.sector.ensures) c.in_err-zeros.ensures in
    sums_second c.from_residual-in_err-zeros.ensures.0 c.in_ok-counts.ensures (sums_second {r = Err c.in_err-zeros.field-0.0} refl list zeros)

pub returns : goal.returns
returns g c =
    let list = as_bytes (list_is c.args.numbers.now.fat c.min-listed.result c.min-listed.ensures) c.in_ok-list.ensures in
    let zeros = as_bytes (ap (λ (z : ℕ). replicate {A = ℕ} (z - 512) 0) c.sector.ensures) c.in_ok-zeros.ensures in
    sums_both {F = Failed} _ refl c.in_ok-counts.ensures (sums_both _ refl list zeros)
