-- Little-endian numbers at the front of bytes.
use Rattle.std.proofs.Common.{◌≡◌, ℕ, ◌+◌, ◌<◌, ◌≤◌, ◌^◌, List, ◌++◌, length, take, drop, refl, sym, ap, ◌∙◌, arith, inl, inr, zero, suc, ◌*◌, [], ◌∷◌}
use Rattle.std.specs.Int.{w16, w32, from_le_bytes, w64, to_le_bytes}
use Rattle.std.specs.Prelude.{sum}
use Rattle.std.proofs.lemmas.List.{take_at, length-take, get_or-drop, get_or-take, get_or_past, take-append-drop}
use Rattle.std.proofs.lemmas.Bool.{cases_lt}
use Rattle.std.proofs.lemmas.Nat.{le_bytes_2, le_bytes_4, from_le_bytes-to_le_bytes_2, from_le_bytes-to_le_bytes_4, mod_below}
use Rattle.carrier_model.specs.Bytes.{AllBytes, number16, number32, le16, le32, sum16, le_number}

pub AllBytes-drop : (n : ℕ) (bytes : List ℕ) → AllBytes bytes → AllBytes (drop n bytes)
AllBytes-drop n bytes h i = rw get_or-drop (h (n + i))

pub AllBytes-take : (n : ℕ) (bytes : List ℕ) → AllBytes bytes → AllBytes (take n bytes)
AllBytes-take n bytes h i =
    elim (cases_lt i n) [
      | inl lt ↦ rw (get_or-take n bytes i 0 lt) (h i)
      | inr le ↦ rw (get_or_past (take n bytes) i 0 (omega (arith, length-take n bytes))) (omega arith)
    ]

pub number32-le32 : (n : ℕ) (rest : List ℕ) → n < 2 ^ 32 → number32 (le32 n ++ rest) ≡ n
number32-le32 n rest lt = ap (from_le_bytes w32) (take_at (le32 n) rest 4 refl) ∙ from_le_bytes-to_le_bytes_4 n lt

pub number16-le16 : (n : ℕ) (rest : List ℕ) → n < 2 ^ 16 → number16 (le16 n ++ rest) ≡ n
number16-le16 n rest lt = ap (from_le_bytes w16) (take_at (le16 n) rest 2 refl) ∙ from_le_bytes-to_le_bytes_2 n lt

pub le32-number32 : (bytes : List ℕ) → 4 ≤ length bytes → AllBytes bytes → le32 (number32 bytes) ≡ take 4 bytes
le32-number32 bytes le h = le_bytes_4 (take 4 bytes) _ (omega (arith, length-take 4 bytes)) (AllBytes-take 4 bytes h) refl

pub le16-number16 : (bytes : List ℕ) → 2 ≤ length bytes → AllBytes bytes → le16 (number16 bytes) ≡ take 2 bytes
le16-number16 bytes le h = le_bytes_2 (take 2 bytes) _ (omega (arith, length-take 2 bytes)) (AllBytes-take 2 bytes h) refl

pub number32-below : (bytes : List ℕ) → AllBytes bytes → number32 bytes < 2 ^ 32
number32-below bytes h = let f = AllBytes-take 4 bytes h in omega (arith, f 0, f 1, f 2, f 3)

pub number32-front : (bytes : List ℕ) → 4 ≤ length bytes → AllBytes bytes → bytes ≡ le32 (number32 bytes) ++ drop 4 bytes
number32-front bytes le h = sym (ap (λ (z : List ℕ). z ++ drop 4 bytes) (le32-number32 bytes le h) ∙ take-append-drop 4 bytes)

pub number16-front : (bytes : List ℕ) → 2 ≤ length bytes → AllBytes bytes → bytes ≡ le16 (number16 bytes) ++ drop 2 bytes
number16-front bytes le h = sym (ap (λ (z : List ℕ). z ++ drop 2 bytes) (le16-number16 bytes le h) ∙ take-append-drop 2 bytes)

pub sum16-below : (bytes : List ℕ) → sum16 bytes < 2 ^ 16
sum16-below bytes = mod_below (sum bytes) 65536 (omega arith)

pub le16_number : (n : ℕ) → n < 65536 → le_number (le16 n) ≡ n
le16_number n lt = omega arith

pub le32_number : (n : ℕ) → n < 2 ^ 32 → le_number (le32 n) ≡ n
le32_number n lt = omega arith

pub le64_number : (n : ℕ) → n < 2 ^ 64 → le_number (to_le_bytes w64 n) ≡ n
le64_number n lt = omega arith

-- how many numbers so many bytes have
abbrev pub top : ℕ → ℕ
top zero = 1
top (suc k) = 256 * top k

pub number_below : (s : List ℕ) → AllBytes s → le_number s < top (length s)
number_below [] h = omega arith
number_below (b ∷ s) h =
    let here : b < 256 = h 0 in
    let rest = number_below s (λ i. h (suc i)) in
    omega (arith, rest)
