use Rattle.std.proofs.Common.{ℕ, ◌++◌}
use Rattle.std.specs.Prelude.{codes, decimal}
use Rattle.tree_texts.proofs.Lists.{next_text}
use Rattle.tree_texts.proofs.Partly.{partly_more, partly_stops}
use Rattle.tree_texts.proofs.numbers.write_slashed.Goals as goal

pub returns-in_err-write_step : goal.returns-in_err-write_step
returns-in_err-write_step g c = partly_stops _ _ (next_text (λ (n : ℕ). codes "/" ++ decimal n) c.args.list.now c.loop-k.k _ c.get.ensures) c.from_residual.ensures.0 c.loop-k.invariant c.in_err-write_step.ensures

pub loop-k-preserved : goal.loop-k-preserved
loop-k-preserved g c = partly_more _ _ (next_text (λ (n : ℕ). codes "/" ++ decimal n) c.args.list.now c.loop-k.k _ c.get.ensures) c.loop-k.invariant c.in_ok-write_step.ensures
