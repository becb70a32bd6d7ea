use Rattle.std.proofs.Common.{◌≡◌, ◌+◌, ◌-◌, ◌*◌, ◌/◌, ℕ, ap, ◌∙◌}
use Rattle.std.specs.Prelude.{min}
use Rattle.carrier_model.specs.Layout.{words_bytes}
use Rattle.cfb_layout.specs.Counts.{plan_seen}
use Rattle.cfb_layout.specs.Versions.{sector_of}
use Rattle.cfb_writer.proofs.Going.{as_bytes}
use Rattle.cfb_writer.proofs.Tables.{list_is}
use Rattle.cfb_writer.proofs.table.append_difat_sector.Goals as goal

pub returns : goal.returns
returns g c =
    let z = sector_of c.args.version in
    let p = plan_seen c.args.numbers.now in
    let n : c.min-listed.result ≡ min (p.fat - (109 + (z / 4 - 1) * c.args.k)) (z / 4 - 1) =
    c.min-listed.ensures
    ∙ ap (λ (m : ℕ). min m (c.words.result - 1)) c.saturating_sub.ensures
    ∙ ap (λ (w : ℕ). min (p.fat - (109 + (w - 1) * c.args.k)) (w - 1)) c.words.ensures
    in
    as_bytes (ap words_bytes (list_is z p c.args.k c.min-listed.result c.difat_behind-last.result n c.difat_behind-last.ensures)) (rw c.words.ensures at c.append_runs.ensures)
