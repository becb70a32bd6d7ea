use Rattle.std.proofs.Common.{◌≡◌, take}
use Rattle.carrier_model.specs.SmallTrees.{wide}
use Rattle.tree_samples.proofs.small_props.wide_text.Given as goal

abbrev pub invariant-loop-c : goal.invariant-loop-c
invariant-loop-c l = l.units.items ≡ wide (take l.c-index l.c-items)
