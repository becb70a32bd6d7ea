use Rattle.std.proofs.Common.{◌-◌, ◌*◌, ℕ, length, refl, ap, arith}
use Rattle.std.specs.Prelude.{replicate}
use Rattle.std.specs.List.{flat_map}
use Rattle.carrier_io.specs.declared.failures.Failed.{Failed}
use Rattle.carrier_model.specs.Layout.{filled, pieces, short_streams}
use Rattle.cfb_writer.specs.Laid.{slots_in}
use Rattle.cfb_layout.specs.Counts.{plan_seen}
use Rattle.cfb_layout.specs.Versions.{sector_of}
use Rattle.cfb_writer.proofs.Going.{as_bytes}
use Rattle.carrier_io.proofs.Summed.{sums_both, sums_first, sums_second}
use Rattle.cfb_writer.proofs.Joins.{mini_is, mini_fits}
use Rattle.cfb_writer.proofs.whole.append_mini_stream.Goals as goal

pub overflow_sub-room : goal.overflow_sub-room
overflow_sub-room g c =
    let z = sector_of c.args.version in
    let p = plan_seen c.args.numbers.now in
    let slots = slots_in c.args.entries.now in
    omega (arith, mini_fits c.args.version p slots c.requires.plan, ap (λ (s : ℕ). s * p.sizes.mini_stream) c.sector.ensures)

pub returns-in_err-streams : goal.returns-in_err-streams
returns-in_err-streams g c =
    let z = sector_of c.args.version in
    let p = plan_seen c.args.numbers.now in
    let slots = slots_in c.args.entries.now in
    let x = flat_map (filled 64) (short_streams slots) in
    let zeros = replicate {A = ℕ} (pieces z x * z - length x) 0 in
    sums_first zeros c.from_residual.ensures.0 c.in_err-streams.ensures

pub returns-in_err-zeros : goal.returns-in_err-zeros
returns-in_err-zeros g c =
    let z = sector_of c.args.version in
    let p = plan_seen c.args.numbers.now in
    let slots = slots_in c.args.entries.now in
    let x = flat_map (filled 64) (short_streams slots) in
    let zeros = replicate {A = ℕ} (pieces z x * z - length x) 0 in
    sums_second c.from_residual-in_err-zeros.ensures.0 c.in_ok-streams.ensures (as_bytes (ap (λ (n : ℕ). replicate {A = ℕ} n 0) (mini_is z c.sector.result p slots c.requires.plan c.sector.ensures)) c.in_err-zeros.ensures)

pub returns : goal.returns
returns g c =
    let z = sector_of c.args.version in
    let p = plan_seen c.args.numbers.now in
    let slots = slots_in c.args.entries.now in
    let x = flat_map (filled 64) (short_streams slots) in
    let zeros = replicate {A = ℕ} (pieces z x * z - length x) 0 in
    sums_both {F = Failed} _ refl c.in_ok-streams.ensures (as_bytes (ap (λ (n : ℕ). replicate {A = ℕ} n 0) (mini_is z c.sector.result p slots c.requires.plan c.sector.ensures)) c.in_ok-zeros.ensures)
