-- The units of bytes, one by one.
use Rattle.std.proofs.Common.{◌≡◌, ℕ, zero, suc, ◌+◌, ◌*◌, ◌≤◌, List, [], ◌∷◌, length, get_or, drop, arith}
use Rattle.carrier_model.specs.Bytes.{number16, units_of}

pub unit_at : (k m : ℕ) (b : List ℕ) → m ≡ 2 * k → m + 2 ≤ length b → number16 (drop m b) ≡ get_or (units_of b) k 0
unit_at k zero [] e h = absurd (omega arith)
unit_at k zero (x ∷ []) e h = absurd (omega arith)
unit_at zero zero (x ∷ y ∷ b) e h = omega arith
unit_at (suc k) zero (x ∷ y ∷ b) e h = absurd (omega arith)
unit_at k (suc zero) b e h = absurd (omega arith)
unit_at k (suc (suc m)) [] e h = absurd (omega arith)
unit_at k (suc (suc m)) (x ∷ []) e h = absurd (omega arith)
unit_at zero (suc (suc m)) (x ∷ y ∷ b) e h = absurd (omega arith)
unit_at (suc k) (suc (suc m)) (x ∷ y ∷ b) e h = unit_at k m b (omega arith) (omega arith)
