-- The order of bytes is that of the numbers that they are, the highest byte first.
use Rattle.std.proofs.Common.{◌≡◌, ℕ, suc, ◌+◌, ◌*◌, ◌^◌, ◌<◌, ◌≤◌, List, [], ◌∷◌, length, take, drop, refl, sym, ap, ◌∙◌, arith}
use Rattle.std.specs.Ordering.{nat_cmp, ordering_then, MatchOrdering}
use Rattle.std.specs.declared.cmp.Ordering.{Ordering}
use Rattle.std.specs.declared.cmp.Ordering.TheVariants.{Less, Equal, Greater}
use Rattle.std.specs.Cmp.{ranks, nat_cmp_is}
use Rattle.std.specs.Cmp.Lexicographic.{slice_cmp}
use Rattle.std.specs.Int.{w64, from_be_bytes}
use Rattle.std.proofs.Math.Nat.{mul-le-mul_right, pow-succ'}
use Rattle.carrier_model.specs.Bytes.{AllBytes}

-- the number that bytes are
abbrev high : List ℕ → ℕ
high [] = 0
high (x ∷ xs) = x * 256 ^ length xs + high xs

high_below : (xs : List ℕ) → AllBytes xs → high xs < 256 ^ length xs
high_below [] h = omega arith
high_below (x ∷ xs) h =
    let rest : high xs < 256 ^ length xs = high_below xs (λ i. h (suc i)) in
    let top : x * 256 ^ length xs ≤ 255 * 256 ^ length xs = mul-le-mul_right (256 ^ length xs) (omega (arith, h 0)) in
    let more : 256 ^ suc (length xs) ≡ 256 * 256 ^ length xs = pow-succ' 256 (length xs) in
    omega (arith, rest, top, more)

-- where one digit is above the other, so is its number
led : (x y v w b : ℕ) (r s : Ordering) → v < b → w < b → MatchOrdering r (x < y) (x ≡ y) (y < x) → MatchOrdering s (v < w) (v ≡ w) (w < v) → MatchOrdering (ordering_then r s) (x * b + v < y * b + w) (x * b + v ≡ y * b + w) (y * b + w < x * b + v)
led x y v w b Less s below under h k = let l : suc x * b ≤ y * b = mul-le-mul_right b h in omega (arith, l, below)
led x y v w b Equal Less below under h k = let l : x * b ≡ y * b = ap (λ (n : ℕ). n * b) h in omega (arith, l, k)
led x y v w b Equal Equal below under h k = let l : x * b ≡ y * b = ap (λ (n : ℕ). n * b) h in omega (arith, l, k)
led x y v w b Equal Greater below under h k = let l : x * b ≡ y * b = ap (λ (n : ℕ). n * b) h in omega (arith, l, k)
led x y v w b Greater s below under h k = let l : suc y * b ≤ x * b = mul-le-mul_right b h in omega (arith, l, under)

high_cmp : (xs ys : List ℕ) → length xs ≡ length ys → AllBytes xs → AllBytes ys → slice_cmp nat_cmp xs ys ≡ nat_cmp (high xs) (high ys)
high_cmp [] [] e a b = refl
high_cmp [] (y ∷ ys) e a b = absurd (omega (arith, e))
high_cmp (x ∷ xs) [] e a b = absurd (omega (arith, e))
high_cmp (x ∷ xs) (y ∷ ys) e a b =
    let same : length xs ≡ length ys = omega (arith, e) in
    let rest : slice_cmp nat_cmp xs ys ≡ nat_cmp (high xs) (high ys) = high_cmp xs ys same (λ i. a (suc i)) (λ i. b (suc i)) in
    let under : high ys < 256 ^ length xs = rw same (high_below ys (λ i. b (suc i))) in
    let whole : ordering_then (nat_cmp x y) (nat_cmp (high xs) (high ys)) ≡ nat_cmp (x * 256 ^ length xs + high xs) (y * 256 ^ length xs + high ys) =
    nat_cmp_is _ _ _ (led x y (high xs) (high ys) (256 ^ length xs) (nat_cmp x y) (nat_cmp (high xs) (high ys)) (high_below xs (λ i. a (suc i))) under (ranks x y) (ranks (high xs) (high ys))) in
    ap (ordering_then (nat_cmp x y)) rest ∙ whole ∙ ap (λ (n : ℕ). nat_cmp (x * 256 ^ length xs + high xs) (y * 256 ^ n + high ys)) same

-- sixteen bytes, eight at a time
abbrev half : ℕ → List ℕ → ℕ
half at xs = from_be_bytes w64 (take 8 (drop at xs))

whole : (xs : List ℕ) → length xs ≡ 16 → half 0 xs * 18446744073709551616 + half 8 xs ≡ high xs
whole (a ∷ b ∷ c ∷ d ∷ e ∷ f ∷ g ∷ h ∷ i ∷ j ∷ k ∷ l ∷ m ∷ n ∷ o ∷ p ∷ []) is = omega arith
whole _ is = absurd (omega arith)

pub halves : (xs ys : List ℕ) → length xs ≡ 16 → length ys ≡ 16 → AllBytes xs → AllBytes ys → from_be_bytes w64 (take 8 (drop 8 xs)) < 18446744073709551616 → from_be_bytes w64 (take 8 (drop 8 ys)) < 18446744073709551616
    → ordering_then (nat_cmp (from_be_bytes w64 (take 8 (drop 0 xs))) (from_be_bytes w64 (take 8 (drop 0 ys)))) (nat_cmp (from_be_bytes w64 (take 8 (drop 8 xs))) (from_be_bytes w64 (take 8 (drop 8 ys)))) ≡ slice_cmp nat_cmp xs ys
halves xs ys long other x y below under =
    let both = nat_cmp_is _ _ _ (led (half 0 xs) (half 0 ys) (half 8 xs) (half 8 ys) 18446744073709551616 (nat_cmp (half 0 xs) (half 0 ys)) (nat_cmp (half 8 xs) (half 8 ys)) below under (ranks (half 0 xs) (half 0 ys)) (ranks (half 8 xs) (half 8 ys))) in
    both ∙ (λ t. nat_cmp (whole xs long t) (whole ys other t)) ∙ sym (high_cmp xs ys (long ∙ sym other) x y)
