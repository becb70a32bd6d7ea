-- Numbers of bytes.
use Rattle.std.proofs.Common.{◌≡◌, ℕ, List, [], ◌∷◌, length, take, drop, arith}
use Rattle.std.specs.Int.{w64, from_le_bytes}
use Rattle.carrier_model.specs.Bytes.{le_number}

-- eight bytes
pub number64-le : (b : List ℕ) → length b ≡ 8 → from_le_bytes w64 (take 8 (drop 0 b)) ≡ le_number b
number64-le [] e = absurd (omega arith)
number64-le (a ∷ []) e = absurd (omega arith)
number64-le (a ∷ b ∷ []) e = absurd (omega arith)
number64-le (a ∷ b ∷ c ∷ []) e = absurd (omega arith)
number64-le (a ∷ b ∷ c ∷ d ∷ []) e = absurd (omega arith)
number64-le (a ∷ b ∷ c ∷ d ∷ f ∷ []) e = absurd (omega arith)
number64-le (a ∷ b ∷ c ∷ d ∷ f ∷ g ∷ []) e = absurd (omega arith)
number64-le (a ∷ b ∷ c ∷ d ∷ f ∷ g ∷ h ∷ []) e = absurd (omega arith)
number64-le (a ∷ b ∷ c ∷ d ∷ f ∷ g ∷ h ∷ k ∷ []) e = omega arith
number64-le (a ∷ b ∷ c ∷ d ∷ f ∷ g ∷ h ∷ k ∷ l ∷ more) e = absurd (omega arith)
