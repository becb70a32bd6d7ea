-- What two lists that are cut into pieces have left, when both are read from the first byte on.
use Rattle.std.proofs.Common.{◌≡◌, ℕ, zero, suc, ◌+◌, ◌-◌, ◌<◌, ◌≤◌, ◌↔◌, List, [], ◌∷◌, ◌++◌, length, take, drop, refl, ap, ◌∙◌, sym, arith, length-append, append_assoc, append-nil, inl, inr}
use Rattle.std.proofs.Math.Seq.{drop-append_seam, take-append_seam}
use Rattle.std.proofs.lemmas.Bool.{cases_lt}
use Rattle.carrier_io.specs.Pieces.{joined}

-- n pieces from a place on
pub rest : (ℕ → List ℕ) → ℕ → ℕ → List ℕ
rest piece k zero = []
rest piece k (suc n) = piece k ++ rest piece (suc k) n

joined_rest : (piece : ℕ → List ℕ) (n k : ℕ) → joined piece (k + n) ≡ joined piece k ++ rest piece k n
unfolding rest
joined_rest piece zero k = let e : k + 0 ≡ k = omega arith in rw e (sym (append-nil (joined piece k)))
joined_rest piece (suc n) k = let e : k + suc n ≡ suc k + n = omega arith in ap (joined piece) e ∙ (joined_rest piece n (suc k) ∙ append_assoc (joined piece k) (piece k) (rest piece (suc k) n))

-- the last pieces of so many, of which some are ahead
abbrev pub left_from : (ℕ → List ℕ) → ℕ → ℕ → List ℕ
left_from piece count ahead = rest piece (count - ahead) ahead

pub left_all : (piece : ℕ → List ℕ) (count : ℕ) → joined piece count ≡ left_from piece count count
left_all piece count = let e : count - count ≡ 0 = omega arith in let z : 0 + count ≡ count = omega arith in rw e (sym (ap (joined piece) z) ∙ joined_rest piece count 0)

pub left_more : (piece : ℕ → List ℕ) (count ahead : ℕ) → 0 < ahead → ahead ≤ count → left_from piece count ahead ≡ piece (count - ahead) ++ left_from piece count (ahead - 1)
unfolding rest
left_more piece count zero lt le = absurd (omega (arith, lt))
left_more piece count (suc a) lt le =
    let e : suc (count - suc a) ≡ count - a = omega (arith, le) in
    let d : suc a - 1 ≡ a = omega arith in
    rw (d, e) refl

pub left_none : (piece : ℕ → List ℕ) (count ahead : ℕ) → ahead ≡ 0 → left_from piece count ahead ≡ []
unfolding rest
left_none piece count ahead e = rw e refl

-- Two lists are equal where what is left of them is; as much is left of both.
pub record IsLeft (xs ys left right : List ℕ) : Type 0 where
  pub same : (xs ≡ ys) ↔ (left ≡ right)
  pub long : length left ≡ length right

-- at first all is left
pub left_first : (xs ys : List ℕ) → length xs ≡ length ys → IsLeft xs ys xs ys
left_first xs ys e = record {
  same = ((λ h. h), (λ h. h));
  long = e;
}

-- the same with what is left written otherwise
pub left_is : (xs ys a b c d : List ℕ) → a ≡ c → b ≡ d → IsLeft xs ys a b → IsLeft xs ys c d
left_is xs ys a b c d p q h = rw (← p, ← q) h

-- equal bytes at the front of both are read
pub left_read : (xs ys front behind more front_two behind_two others : List ℕ) → front ≡ front_two → IsLeft xs ys ((front ++ behind) ++ more) ((front_two ++ behind_two) ++ others) → IsLeft xs ys (behind ++ more) (behind_two ++ others)
left_read xs ys front behind more front_two behind_two others e h =
    let a = append_assoc front behind more in
    let b = append_assoc front_two behind_two others in
    let n = ap length e in
    record {
      same = (
        (λ s. sym (drop-append_seam front (behind ++ more)) ∙ (ap (drop (length front)) (sym a ∙ (h.same.0 s ∙ b)) ∙ (ap (λ k. drop k (front_two ++ (behind_two ++ others))) n ∙ drop-append_seam front_two (behind_two ++ others)))),
        (λ t. h.same.1 (a ∙ ((λ i. e i ++ t i) ∙ sym b))),
      );
      long = omega (arith, h.long, n, ap length a, ap length b, length-append front (behind ++ more), length-append front_two (behind_two ++ others));
    }

-- bytes at the front differ, so the lists differ
pub left_differs : (xs ys front behind more front_two behind_two others : List ℕ) → length front ≡ length front_two → (front ≡ front_two → ⊥) → IsLeft xs ys ((front ++ behind) ++ more) ((front_two ++ behind_two) ++ others) → xs ≡ ys → ⊥
left_differs xs ys front behind more front_two behind_two others n e h s =
    let a = append_assoc front behind more in
    let b = append_assoc front_two behind_two others in
    e (sym (take-append_seam front (behind ++ more)) ∙ (ap (take (length front)) (sym a ∙ (h.same.0 s ∙ b)) ∙ (ap (λ k. take k (front_two ++ (behind_two ++ others))) n ∙ take-append_seam front_two (behind_two ++ others))))

-- nothing is left of the first, so the lists are equal
pub left_empty : (xs ys left more right : List ℕ) → length left ≡ 0 → more ≡ [] → IsLeft xs ys (left ++ more) right → xs ≡ ys
left_empty xs ys [] more [] n e h = h.same.1 e
left_empty xs ys [] more (y ∷ right) n e h = absurd (omega (arith, h.long, ap length e))
left_empty xs ys (x ∷ left) more right n e h = absurd (omega (arith, n))

-- something is left of the first, so a piece is ahead of the second where nothing of the last one is left
pub left_piece : (xs ys left more right : List ℕ) (piece : ℕ → List ℕ) (count ahead : ℕ) → 0 < length left → length right ≡ 0 → IsLeft xs ys (left ++ more) (right ++ left_from piece count ahead) → 0 < ahead
left_piece xs ys left more right piece count ahead lt e h = elim (cases_lt 0 ahead) [
  | inl some ↦ some
  | inr none ↦ absurd (omega (arith, h.long, ap length (left_none piece count ahead (omega (arith, none))), length-append left more, length-append right (left_from piece count ahead), lt, e))
]

pub nothing_in : (xs : List ℕ) → length xs ≡ 0 → xs ≡ []
nothing_in [] e = refl
nothing_in (x ∷ xs) e = absurd (omega (arith, e))
