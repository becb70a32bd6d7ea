use Rattle.std.proofs.Common.{◌≤◌, ◌-◌, ℕ, refl, arith}
use Rattle.std.specs.Prelude.{replicate}
use Rattle.std.proofs.lemmas.List.{take-replicate}
use Rattle.carrier_io.proofs.Going.{going_more, going_stops, zeros-parts}
use Rattle.carrier_io.proofs.summing.append_zeros.Goals as goal

pub returns-in_err-sum : goal.returns-in_err-sum
returns-in_err-sum g c =
    let left = c.loop-left.left in
    let part = c.min-part.result in
    let few : part ≤ 512 = omega (arith, c.min-part.ensures) in
    going_stops (replicate {A = ℕ} part 0) (replicate {A = ℕ} (left - part) 0) (zeros-parts left part (left - part) (omega (arith, c.min-part.ensures))) c.from_residual.ensures.0 c.loop-left.invariant (rw (take-replicate {X = ℕ} part 512 0 few) at c.in_err-sum.ensures)

pub loop-left-preserved : goal.loop-left-preserved
loop-left-preserved g c =
    let left = c.loop-left.left in
    let part = c.min-part.result in
    let few : part ≤ 512 = omega (arith, c.min-part.ensures) in
    going_more _ (replicate {A = ℕ} part 0) (replicate {A = ℕ} (left - part) 0) (zeros-parts left part (left - part) (omega (arith, c.min-part.ensures))) refl c.loop-left.invariant (rw (take-replicate {X = ℕ} part 512 0 few) at c.in_ok-sum.ensures)
