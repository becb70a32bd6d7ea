-- The first units of a list.
use Rattle.std.specs.Prelude.{◌≡◌, ℕ, ◌≤◌, ◌<◌, List, length, take}
use Rattle.cfb_directory.specs.declared.wanted.Wanted.{Wanted}

-- a list of at most 32 units is kept whole; of a longer one it is kept that it is longer
pub record Keeps (w : Wanted) (xs : List ℕ) : Type 0 where
  pub whole : length xs ≤ 32 → (w.len ≡ length xs) × (take w.len w.units ≡ xs)
  pub longer : 32 < length xs → w.len ≡ 33
