use Rattle.std.proofs.Common.{◌≡◌, ℕ, ◌-◌, ◌<◌, ◌≤◌, [], get_or, length, map}
use Rattle.std.specs.declared.cmp.Ordering.TheVariants.{Less, Greater}
use Rattle.carrier_model.specs.Files.{folded}
use Rattle.cfb_directory.specs.Rising.{key_cmp}
use Rattle.cfb_directory.specs.Spelled.{names_in}
use Rattle.cfb_directory.proofs.rising.place_of.Given as goal

abbrev pub invariant-loop-low : goal.invariant-loop-low
invariant-loop-low l = record {
  inside : l.high ≤ length (names_in l.names);
  below : (i : ℕ) → i < l.low → key_cmp (get_or (map folded (names_in l.names)) i []) l.key ≡ Less;
  above : (i : ℕ) → l.high ≤ i → i < length (map folded (names_in l.names)) → key_cmp (get_or (map folded (names_in l.names)) i []) l.key ≡ Greater;
}

abbrev pub decreases-loop-low : goal.decreases-loop-low
decreases-loop-low l = l.high - l.low
