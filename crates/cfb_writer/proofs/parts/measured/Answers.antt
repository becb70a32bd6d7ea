use Rattle.std.proofs.Common.{◌≡◌, ℕ, ◌*◌, ◌≤◌, ap, ◌∙◌, arith, rules}
use Rattle.carrier_model.specs.Bytes.{MOST_BYTES}
use Rattle.carrier_model.specs.Totals.{capped}
use Rattle.cfb_writer.specs.Measures.{CanBeTold, sectors_in}
use Rattle.cfb_layout.specs.Counts.{plan_seen}
use Rattle.cfb_writer.specs.Planned.{planned}
use Rattle.cfb_layout.specs.Versions.{sector_of}
use Rattle.cfb_writer.proofs.Measures.{exact, small_is}
use Rattle.cfb_writer.proofs.parts.measured.Goals as goal

pub returns-then-size-gt-MOST_BYTES : goal.returns-then-size-gt-MOST_BYTES
returns-then-size-gt-MOST_BYTES c entries mini long e =
    let told : CanBeTold c.args.totals = search rules in
    let z = sector_of c.args.version in
    let plan = c.count_parts-parts.ensures.plan ∙ exact z c.args.totals entries mini long e told in
    let size : c.saturating_mul-size.result ≡ capped (z * sectors_in (planned z entries mini long)) = c.saturating_mul-size.ensures ∙ ap (λ (n : ℕ). capped (n * c.all.result)) c.sector.ensures ∙ ap (λ (n : ℕ). capped (z * n)) (c.all.ensures ∙ ap sectors_in plan) in
    (omega (arith, size, c.if-size-gt-MOST_BYTES.true), size)

pub returns : goal.returns
returns c entries mini long e =
    let told : CanBeTold c.args.totals = search rules in
    let z = sector_of c.args.version in
    let p = planned z entries mini long in
    let plan = c.count_parts-parts.ensures.plan ∙ exact z c.args.totals entries mini long e told in
    let size : c.saturating_mul-size.result ≡ capped (z * sectors_in p) = c.saturating_mul-size.ensures ∙ ap (λ (n : ℕ). capped (n * c.all.result)) c.sector.ensures ∙ ap (λ (n : ℕ). capped (z * n)) (c.all.ensures ∙ ap sectors_in plan) in
    let few : c.saturating_mul-size.result ≤ MOST_BYTES = omega (arith, c.if-size-gt-MOST_BYTES.false) in
    let whole : c.saturating_mul-size.result ≡ z * sectors_in p = omega (arith, size, few) in
    let seen : plan_seen c.numbers-numbers.result ≡ p = c.numbers-numbers.ensures ∙ plan in
    (small_is c.args.version c.numbers-numbers.result entries mini long seen (omega (arith, whole, few)), seen, whole, few)
