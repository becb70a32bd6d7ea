use Rattle.std.proofs.Common.{rules, ◌≡◌, ◌+◌, ◌*◌, ◌/◌, ◌<◌, ◌++◌, ◌∷◌, [], ℕ, List, length, take, get_or, ap, sym, ◌∙◌, refl, arith}
use Rattle.std.proofs.lemmas.Grind.{take-set_at}
use Rattle.json_writer.proofs.PlainRuns.{lows_all, lows_two}
use Rattle.json_writer.proofs.plain.put_plain.Goals as goal

pub loop-k-preserved : goal.loop-k-preserved
loop-k-preserved c =
    let xs = c.args.bytes.now in
    let k = c.loop-k.k in
    let both : 2 * k + 1 < length xs = omega (arith, c.loop-k-test.true, c.loop-k.auto.k-end) in
    let low = get_or xs (2 * k) 0 in
    take-set_at c.loop-k.buffer k (k + 1) low refl (search rules) ∙ ap (λ (z : List ℕ). z ++ low ∷ []) c.loop-k.invariant ∙ sym (lows_two k xs both)

pub returns-clause-text : goal.returns-clause-text
returns-clause-text c =
    let last : c.loop-k.k ≡ length c.args.bytes.now / 2 = omega (arith, c.loop-k-test.false, c.loop-k.auto.k-end) in
    ap (λ n. take n c.loop-k.buffer) (sym last) ∙ c.loop-k.invariant ∙ lows_all c.loop-k.k c.args.bytes.now last
