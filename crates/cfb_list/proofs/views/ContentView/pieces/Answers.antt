use Rattle.std.proofs.Common.{◌<◌, ◌+◌, ◌/◌, ◌%◌, ℕ, ap, ◌∙◌, arith}
use Rattle.std.specs.Int.{div_ceil}
use Rattle.cfb_list.proofs.Divided.{ceil_past}
use Rattle.cfb_list.proofs.views.ContentView.pieces.Goals as goal

pub overflow_add-len : goal.overflow_add-len
overflow_add-len g c = let r : c.parts-len.result.0 % c.args.size < c.args.size = omega (arith, c.requires.some) in omega (arith, r, c.requires.few, c.parts-len.ensures.few)

pub returns : goal.returns
returns g c =
    ap (λ (n : ℕ). c.parts-len.result.0 / c.args.size + n) c.div_ceil.ensures
    ∙ ceil_past c.parts-len.result.0 c.parts-len.result.1 c.args.size (omega (arith, c.requires.some))
    ∙ ap (λ (n : ℕ). div_ceil n c.args.size) c.parts-len.ensures.sum
