use Rattle.std.proofs.Common.{true, false, arith}
use Rattle.tnef_props.proofs.Lengths.{numbers_length}
use Rattle.tnef_props.proofs.sizes.numbers_size.Goals as goal

pub returns-then-is_wide-clause-numbers : goal.returns-then-is_wide-clause-numbers
returns-then-is_wide-clause-numbers c = λ lt list e. omega (arith, numbers_length true _ list (rw c.if-is_wide.true at (c.is_wide.ensures.numbers lt)), e)

pub returns-else-is_wide-clause-numbers : goal.returns-else-is_wide-clause-numbers
returns-else-is_wide-clause-numbers c = λ lt list e. omega (arith, numbers_length false _ list (rw c.if-is_wide.false at (c.is_wide.ensures.numbers lt)), e)
