use Rattle.std.proofs.Common.{◌<◌, ◌+◌, ◌*◌, ◌-◌, ◌%◌, ℕ, sym, ap, ◌∙◌, arith}
use Rattle.std.specs.Int.{div_ceil}
use Rattle.cfb_list.proofs.Divided.{rest_past, missing_none, missing_some}
use Rattle.cfb_list.proofs.views.ContentView.missing.Goals as goal

pub returns-then-past-eq0 : goal.returns-then-past-eq0
returns-then-past-eq0 g c =
    let a = c.parts-len.result.0 in
    let b = c.parts-len.result.1 in
    let s = c.args.size in
    missing_none (a + b) s (sym (rest_past a b s) ∙ c.if-past-eq0.true) ∙ ap (λ (n : ℕ). div_ceil n s * s - n) c.parts-len.ensures.sum

pub returns-else-past-eq0 : goal.returns-else-past-eq0
returns-else-past-eq0 g c =
    let a = c.parts-len.result.0 in
    let b = c.parts-len.result.1 in
    let s = c.args.size in
    let some : 0 < (a % s + b) % s = omega (arith, c.if-past-eq0.false) in
    ap (λ (r : ℕ). s - r) (rest_past a b s) ∙ missing_some (a + b) s (omega (arith, some, rest_past a b s)) ∙ ap (λ (n : ℕ). div_ceil n s * s - n) c.parts-len.ensures.sum
