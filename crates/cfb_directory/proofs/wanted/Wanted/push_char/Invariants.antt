use Rattle.std.proofs.Common.{ℕ, List, ◌++◌, take}
use Rattle.carrier_model.specs.Files.{folded}
use Rattle.cfb_directory.specs.Wanted.{Keeps}
use Rattle.cfb_directory.proofs.wanted.Wanted.push_char.Given as goal

abbrev pub invariant-loop-unit : goal.invariant-loop-unit
invariant-loop-unit l = (xs : List ℕ) → Keeps l.initial.self xs → Keeps l.self (xs ++ folded (take l.unit-index l.units))
