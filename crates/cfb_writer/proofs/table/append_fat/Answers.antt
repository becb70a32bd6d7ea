use Rattle.std.proofs.Common.{◌≡◌, ◌≤◌, ◌+◌, ◌-◌, ◌*◌, ◌/◌, ◌++◌, ℕ, Err, refl, sym, ap, subst, ◌∙◌, arith}
use Rattle.std.specs.Prelude.{replicate}
use Rattle.carrier_io.specs.declared.failures.Failed.{Failed}
use Rattle.carrier_model.specs.Layout.{FREE, words_bytes, stream_words, long_start, long_streams}
use Rattle.cfb_writer.specs.Laid.{slots_in}
use Rattle.cfb_layout.specs.Counts.{plan_seen}
use Rattle.cfb_layout.specs.Versions.{sector_of}
use Rattle.cfb_writer.proofs.Going.{as_bytes}
use Rattle.carrier_io.proofs.Summed.{sums_both, sums_first, sums_second}
use Rattle.cfb_writer.proofs.Tables.{enough, table_is}
use Rattle.cfb_writer.proofs.table.append_fat.Goals as goal

pub overflow_sub-words : goal.overflow_sub-words
overflow_sub-words g c =
    let p = plan_seen c.args.numbers.now in
    let h = enough c.args.version p (slots_in c.args.entries.now) c.requires.plan in
    subst (λ (w : ℕ). c.long_start-2.result + c.args.numbers.now.long ≤ w * c.args.numbers.now.fat) (sym c.words.ensures) (omega (arith, h, c.long_start-2.ensures))

pub returns-in_err-fronts : goal.returns-in_err-fronts
returns-in_err-fronts g c =
    let z = sector_of c.args.version in
    let p = plan_seen c.args.numbers.now in
    let slots = slots_in c.args.entries.now in
    let free = z / 4 * p.fat - (long_start p + p.sizes.long) in
    let all = table_is z p slots free c.requires.plan refl in
    as_bytes all (sums_first (words_bytes (stream_words z (long_start p) (long_streams slots)) ++ words_bytes (replicate free FREE)) c.from_residual.ensures.0 c.in_err-fronts.ensures)

pub returns-in_err-chains : goal.returns-in_err-chains
returns-in_err-chains g c =
    let z = sector_of c.args.version in
    let p = plan_seen c.args.numbers.now in
    let slots = slots_in c.args.entries.now in
    let free = z / 4 * p.fat - (long_start p + p.sizes.long) in
    let all = table_is z p slots free c.requires.plan refl in
    let chains = (rw c.long_start.ensures at c.in_err-chains.ensures) in
    as_bytes all (sums_second c.from_residual-in_err-chains.ensures.0 c.in_ok-fronts.ensures (sums_first {r = Err c.in_err-chains.field-0.0} (words_bytes (replicate free FREE)) refl chains))

pub returns-in_err-free : goal.returns-in_err-free
returns-in_err-free g c =
    let z = sector_of c.args.version in
    let p = plan_seen c.args.numbers.now in
    let slots = slots_in c.args.entries.now in
    let free = z / 4 * p.fat - (long_start p + p.sizes.long) in
    let all = table_is z p slots free c.requires.plan refl in
    let chains = (rw c.long_start.ensures at c.in_ok-chains.ensures) in
    let count : c.words.result * p.fat - (c.long_start-2.result + p.sizes.long) ≡ free = ap (λ (w : ℕ). w * p.fat - (c.long_start-2.result + p.sizes.long)) c.words.ensures ∙ ap (λ (l : ℕ). z / 4 * p.fat - (l + p.sizes.long)) c.long_start-2.ensures in
    let last = as_bytes (ap (λ (n : ℕ). words_bytes (replicate {A = ℕ} n FREE)) count) c.in_err-free.ensures in
    as_bytes all (sums_second c.from_residual-in_err-free.ensures.0 c.in_ok-fronts.ensures (sums_second {r = Err c.in_err-free.field-0.0} refl chains last))

pub returns : goal.returns
returns g c =
    let z = sector_of c.args.version in
    let p = plan_seen c.args.numbers.now in
    let slots = slots_in c.args.entries.now in
    let free = z / 4 * p.fat - (long_start p + p.sizes.long) in
    let all = table_is z p slots free c.requires.plan refl in
    let chains = (rw c.long_start.ensures at c.in_ok-chains.ensures) in
    let count : c.words.result * p.fat - (c.long_start-2.result + p.sizes.long) ≡ free = ap (λ (w : ℕ). w * p.fat - (c.long_start-2.result + p.sizes.long)) c.words.ensures ∙ ap (λ (l : ℕ). z / 4 * p.fat - (l + p.sizes.long)) c.long_start-2.ensures in
    let last = as_bytes (ap (λ (n : ℕ). words_bytes (replicate {A = ℕ} n FREE)) count) c.in_ok-free.ensures in
    as_bytes all (sums_both {F = Failed} _ refl c.in_ok-fronts.ensures (sums_both {F = Failed} _ refl chains last))
