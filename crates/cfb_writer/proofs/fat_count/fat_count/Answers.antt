use Rattle.std.proofs.Common.{◌≡◌, ◌≤◌, ◌+◌, ◌-◌, ◌/◌, ℕ, true, false, sym, ap, subst, ◌∙◌, arith, rules}
use Rattle.std.specs.Int.{div_ceil}
use Rattle.carrier_model.specs.Layout.{fat_count}
use Rattle.carrier_model.specs.Tables.{difat_count}
use Rattle.cfb_layout.specs.Versions.{sector_of}
use Rattle.cfb_writer.proofs.Least.{count-bound, count-is, next-above, next-within}
use Rattle.cfb_writer.proofs.fat_count.fat_count.Goals as goal

pub suffices-requires-clause-fat : goal.suffices-requires-clause-fat
suffices-requires-clause-fat c = omega (arith, c.loop-version.invariant, count-bound c.args.version c.args.rest)

pub loop-version-preserved : goal.loop-version-preserved
loop-version-preserved c =
    let next : c.div_ceil-fat.result ≡ div_ceil (c.args.rest + difat_count (sector_of c.args.version) c.loop-version.fat) (sector_of c.args.version / 4 - 1) =
    c.div_ceil-fat.ensures
    ∙ ap (λ (d : ℕ). div_ceil (c.args.rest + d) (c.words-words.result - 1)) c.difat_count.ensures
    ∙ ap (λ (w : ℕ). div_ceil (c.args.rest + difat_count (sector_of c.args.version) c.loop-version.fat) (w - 1)) c.words-words.ensures
    in
    subst (λ (n : ℕ). n ≤ fat_count (sector_of c.args.version) c.args.rest) (sym next) (next-within c.args.version c.args.rest c.loop-version.fat c.loop-version.invariant)

pub loop-version-smaller : goal.loop-version-smaller
loop-version-smaller c =
    let next : c.div_ceil-fat.result ≡ div_ceil (c.args.rest + difat_count (sector_of c.args.version) c.loop-version.fat) (sector_of c.args.version / 4 - 1) =
    c.div_ceil-fat.ensures
    ∙ ap (λ (d : ℕ). div_ceil (c.args.rest + d) (c.words-words.result - 1)) c.difat_count.ensures
    ∙ ap (λ (w : ℕ). div_ceil (c.args.rest + difat_count (sector_of c.args.version) c.loop-version.fat) (w - 1)) c.words-words.ensures
    in
    let bad : c.suffices.result ≡ false = search rules in
    omega (arith, next, next-above c.args.version c.args.rest c.loop-version.fat (sym c.suffices.ensures ∙ bad), next-within c.args.version c.args.rest c.loop-version.fat c.loop-version.invariant, count-bound c.args.version c.args.rest)

pub returns-clause-least : goal.returns-clause-least
returns-clause-least c =
    let good : c.suffices.result ≡ true = search rules in
    count-is c.args.version c.args.rest c.loop-version.fat c.loop-version.invariant (sym c.suffices.ensures ∙ good)

pub returns-clause-few : goal.returns-clause-few
returns-clause-few c = omega (arith, c.loop-version.invariant, count-bound c.args.version c.args.rest)
