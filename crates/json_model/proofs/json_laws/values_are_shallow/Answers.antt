use Rattle.std.proofs.Common.{arith}
use Rattle.json_model.proofs.Nesting.{json_within}
use Rattle.json_model.proofs.json_laws.values_are_shallow.Goals as goal

pub returns : goal.returns
returns c = λ t tree. omega (arith, json_within t, tree.levels)
