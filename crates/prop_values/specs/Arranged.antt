-- Places of a list in any order.
use Rattle.std.specs.Prelude.{◌≡◌, ℕ, ◌<◌, List, length, slice_index_or}

-- each place of a list once
pub record ArePlaces (places : List ℕ) : Type 0 where
  pub within : (k : ℕ) → k < length places → slice_index_or places k 0 < length places
  pub apart : (i j : ℕ) → i < length places → j < length places → slice_index_or places i 0 ≡ slice_index_or places j 0 → i ≡ j
  pub all : (p : ℕ) → p < length places → (k : ℕ) × (k < length places) × (slice_index_or places k 0 ≡ p)

-- where each place stands among the places, and no more
pub record AreInverse (places ranks : List ℕ) : Type 0 where
  pub each : length ranks ≡ length places
  pub within : (k : ℕ) → k < length places → slice_index_or places k 0 < length places
  pub rank : (k : ℕ) → k < length places → slice_index_or ranks (slice_index_or places k 0) 0 ≡ k
  pub ranked : (p : ℕ) → p < length places → slice_index_or ranks p 0 < length places
  pub place : (p : ℕ) → p < length places → slice_index_or places (slice_index_or ranks p 0) 0 ≡ p
