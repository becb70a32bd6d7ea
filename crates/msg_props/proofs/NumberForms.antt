-- Little-endian numbers of bytes.
use Rattle.std.proofs.Common.{◌≡◌, ℕ, ◌+◌, ◌≤◌, List, [], ◌∷◌, length, take, drop, arith}
use Rattle.std.specs.Int.{w16, w32, w64, from_le_bytes}
use Rattle.std.proofs.lemmas.List.{length-take, length-drop}
use Rattle.carrier_model.specs.Bytes.{le_number}

le16 : (b : List ℕ) → length b ≡ 2 → from_le_bytes w16 b ≡ le_number b
le16 [] e = absurd (omega arith)
le16 (a ∷ []) e = absurd (omega arith)
le16 (a ∷ b ∷ []) e = omega arith
le16 (a ∷ b ∷ c ∷ more) e = absurd (omega arith)

le32 : (b : List ℕ) → length b ≡ 4 → from_le_bytes w32 b ≡ le_number b
le32 [] e = absurd (omega arith)
le32 (a ∷ []) e = absurd (omega arith)
le32 (a ∷ b ∷ []) e = absurd (omega arith)
le32 (a ∷ b ∷ c ∷ []) e = absurd (omega arith)
le32 (a ∷ b ∷ c ∷ d ∷ []) e = omega arith
le32 (a ∷ b ∷ c ∷ d ∷ f ∷ more) e = absurd (omega arith)

le64 : (b : List ℕ) → length b ≡ 8 → from_le_bytes w64 b ≡ le_number b
le64 [] e = absurd (omega arith)
le64 (a ∷ []) e = absurd (omega arith)
le64 (a ∷ b ∷ []) e = absurd (omega arith)
le64 (a ∷ b ∷ c ∷ []) e = absurd (omega arith)
le64 (a ∷ b ∷ c ∷ d ∷ []) e = absurd (omega arith)
le64 (a ∷ b ∷ c ∷ d ∷ f ∷ []) e = absurd (omega arith)
le64 (a ∷ b ∷ c ∷ d ∷ f ∷ g ∷ []) e = absurd (omega arith)
le64 (a ∷ b ∷ c ∷ d ∷ f ∷ g ∷ h ∷ []) e = absurd (omega arith)
le64 (a ∷ b ∷ c ∷ d ∷ f ∷ g ∷ h ∷ k ∷ []) e = omega arith
le64 (a ∷ b ∷ c ∷ d ∷ f ∷ g ∷ h ∷ k ∷ l ∷ more) e = absurd (omega arith)

-- the bytes from a place on, where there are enough
cut : (b : List ℕ) (at n : ℕ) → at + n ≤ length b → length (take n (drop at b)) ≡ n
cut b at n le = omega (arith, length-take n (drop at b), length-drop at b)

pub number16_le : (b : List ℕ) (at : ℕ) → at + 2 ≤ length b → from_le_bytes w16 (take 2 (drop at b)) ≡ le_number (take 2 (drop at b))
number16_le b at le = le16 (take 2 (drop at b)) (cut b at 2 le)

pub number32_le : (b : List ℕ) (at : ℕ) → at + 4 ≤ length b → from_le_bytes w32 (take 4 (drop at b)) ≡ le_number (take 4 (drop at b))
number32_le b at le = le32 (take 4 (drop at b)) (cut b at 4 le)

pub number64_le : (b : List ℕ) (at : ℕ) → at + 8 ≤ length b → from_le_bytes w64 (take 8 (drop at b)) ≡ le_number (take 8 (drop at b))
number64_le b at le = le64 (take 8 (drop at b)) (cut b at 8 le)
