use Rattle.std.proofs.Common.{◌≡◌, ℕ, ◌<◌, [], get_or, map}
use Rattle.std.specs.declared.cmp.Ordering.TheVariants.{Less}
use Rattle.carrier_model.specs.Files.{folded}
use Rattle.cfb_directory.specs.Rising.{key_cmp}
use Rattle.cfb_directory.specs.Spelled.{names_in}
use Rattle.cfb_directory.proofs.rising.rise.Given as goal

abbrev pub invariant-loop-k : goal.invariant-loop-k
invariant-loop-k l = (i j : ℕ) → i < j → j < l.k → key_cmp (get_or (map folded (names_in l.names)) i []) (get_or (map folded (names_in l.names)) j []) ≡ Less
