-- Names that end in a number of eight digits stand in the order of what is before it, and then of the number.
use Rattle.std.proofs.Common.{◌≡◌, ℕ, zero, suc, ◌+◌, ◌*◌, ◌/◌, ◌%◌, ◌<◌, ◌^◌, List, [], ◌∷◌, ◌++◌, length, map, refl, sym, ap, ◌∙◌, arith}
use Rattle.std.specs.Char.{to_ascii_uppercase}
use Rattle.std.specs.Cmp.{nat_cmp_is}
use Rattle.std.specs.Cmp.Lexicographic.{slice_cmp}
use Rattle.std.specs.Ordering.{MatchOrdering, nat_cmp, ordering_then}
use Rattle.std.specs.declared.cmp.Ordering.{Ordering}
use Rattle.std.specs.declared.cmp.Ordering.TheVariants.{Less, Equal, Greater}
use Rattle.std.proofs.lemmas.Bool.Decides.{nat_tests}
use Rattle.std.proofs.lemmas.Cmp.{ranked}
use Rattle.std.proofs.lemmas.List.{length-append, length-map, map-append}
use Rattle.carrier_model.specs.FileTrees.{sibling_cmp}
use Rattle.carrier_model.specs.KeyTexts.{upper, hex_digit, hex_digits}

then_equal : (o : Ordering) → ordering_then o Equal ≡ o
then_equal Less = refl
then_equal Equal = refl
then_equal Greater = refl

then_joined : (a b c : Ordering) → ordering_then (ordering_then a b) c ≡ ordering_then a (ordering_then b c)
then_joined Less b c = refl
then_joined Equal b c = refl
then_joined Greater b c = refl

-- lists behind lists of one length
behind_cmp : (xs ys us vs : List ℕ) → length xs ≡ length ys → slice_cmp nat_cmp (xs ++ us) (ys ++ vs) ≡ ordering_then (slice_cmp nat_cmp xs ys) (slice_cmp nat_cmp us vs)
behind_cmp [] [] us vs e = refl
behind_cmp [] (y ∷ ys) us vs e = absurd (omega (arith, e))
behind_cmp (x ∷ xs) [] us vs e = absurd (omega (arith, e))
behind_cmp (x ∷ xs) (y ∷ ys) us vs e =
    ap (ordering_then (nat_cmp x y)) (behind_cmp xs ys us vs (omega (arith, e)))
    ∙ sym (then_joined (nat_cmp x y) (slice_cmp nat_cmp xs ys) (slice_cmp nat_cmp us vs))

-- numbers that are as two others
same_cmp : (x y m n : ℕ) → ((o : Ordering) → MatchOrdering o (m < n) (m ≡ n) (n < m) → MatchOrdering o (x < y) (x ≡ y) (y < x)) → nat_cmp x y ≡ nat_cmp m n
same_cmp x y m n h = sym (nat_cmp_is x y (nat_cmp m n) (h (nat_cmp m n) (ranked m n (nat_cmp m n) refl)))

-- ---- digits

-- an upper-case digit stays in upper case, and digits stand in the order of their numbers
digit_stays : (d : ℕ) → d < 16 → to_ascii_uppercase (hex_digit upper d) ≡ hex_digit upper d
digit_stays d lt = grind (arith, nat_tests)

digit_up : (d e : ℕ) → d < e → e < 16 → hex_digit upper d < hex_digit upper e
digit_up d e up lt = grind (arith, nat_tests)

digit_cmp : (d e : ℕ) → d < 16 → e < 16 → nat_cmp (to_ascii_uppercase (hex_digit upper d)) (to_ascii_uppercase (hex_digit upper e)) ≡ nat_cmp d e
digit_cmp d e low high =
    (λ i. nat_cmp (digit_stays d low i) (digit_stays e high i))
    ∙ same_cmp (hex_digit upper d) (hex_digit upper e) d e by
  where
    by : (o : Ordering) → MatchOrdering o (d < e) (d ≡ e) (e < d) → MatchOrdering o (hex_digit upper d < hex_digit upper e) (hex_digit upper d ≡ hex_digit upper e) (hex_digit upper e < hex_digit upper d)
    by Less h = digit_up d e h high
    by Equal h = ap (hex_digit upper) h
    by Greater h = digit_up e d h low

-- all digits but the last, and then the last
divided_cmp : (a b : ℕ) → ordering_then (nat_cmp (a / 16) (b / 16)) (nat_cmp (a % 16) (b % 16)) ≡ nat_cmp a b
divided_cmp a b = by (nat_cmp (a / 16) (b / 16)) refl
  where
    last : (a / 16 ≡ b / 16) → (o : Ordering) → MatchOrdering o (a % 16 < b % 16) (a % 16 ≡ b % 16) (b % 16 < a % 16) → MatchOrdering o (a < b) (a ≡ b) (b < a)
    last e Less h = omega (arith, e, h)
    last e Equal h = omega (arith, e, h)
    last e Greater h = omega (arith, e, h)

    by : (o : Ordering) → o ≡ nat_cmp (a / 16) (b / 16) → ordering_then o (nat_cmp (a % 16) (b % 16)) ≡ nat_cmp a b
    by Less h = let lt : a / 16 < b / 16 = ranked (a / 16) (b / 16) Less h in nat_cmp_is a b Less (omega (arith, lt))
    by Equal h = let e : a / 16 ≡ b / 16 = ranked (a / 16) (b / 16) Equal h in nat_cmp_is a b (nat_cmp (a % 16) (b % 16)) (last e (nat_cmp (a % 16) (b % 16)) (ranked (a % 16) (b % 16) (nat_cmp (a % 16) (b % 16)) refl))
    by Greater h = let lt : b / 16 < a / 16 = ranked (a / 16) (b / 16) Greater h in nat_cmp_is a b Greater (omega (arith, lt))

-- the numbers that so many digits have
abbrev digits_bound : ℕ → ℕ
digits_bound zero = 1
digits_bound (suc count) = 16 * digits_bound count

abbrev raised : List ℕ → List ℕ
raised = map to_ascii_uppercase

digits_long : (count n : ℕ) → length (hex_digits upper count n) ≡ count
digits_long zero n = refl
digits_long (suc count) n = length-append (hex_digits upper count (n / 16)) (hex_digit upper (n % 16) ∷ []) ∙ omega (arith, digits_long count (n / 16))

raised_long : (count n : ℕ) → length (raised (hex_digits upper count n)) ≡ count
raised_long count n = length-map (hex_digits upper count n) to_ascii_uppercase ∙ digits_long count n

digits_cmp : (count a b : ℕ) → a < digits_bound count → b < digits_bound count → slice_cmp nat_cmp (raised (hex_digits upper count a)) (raised (hex_digits upper count b)) ≡ nat_cmp a b
digits_cmp zero a b low high = nat_cmp_is a b Equal (omega (arith, low, high))
digits_cmp (suc count) a b low high =
    let front = digits_cmp count (a / 16) (b / 16) (omega (arith, low)) (omega (arith, high)) in
    let last = then_equal (nat_cmp (to_ascii_uppercase (hex_digit upper (a % 16))) (to_ascii_uppercase (hex_digit upper (b % 16)))) ∙ digit_cmp (a % 16) (b % 16) (omega arith) (omega arith) in
    (λ i. slice_cmp nat_cmp (map-append to_ascii_uppercase (hex_digits upper count (a / 16)) (hex_digit upper (a % 16) ∷ []) i) (map-append to_ascii_uppercase (hex_digits upper count (b / 16)) (hex_digit upper (b % 16) ∷ []) i))
    ∙ behind_cmp (raised (hex_digits upper count (a / 16))) (raised (hex_digits upper count (b / 16))) (to_ascii_uppercase (hex_digit upper (a % 16)) ∷ []) (to_ascii_uppercase (hex_digit upper (b % 16)) ∷ []) (raised_long count (a / 16) ∙ sym (raised_long count (b / 16)))
    ∙ (λ i. ordering_then (front i) (last i))
    ∙ divided_cmp a b

-- ---- names

longer_cmp : (x y n : ℕ) → nat_cmp (x + n) (y + n) ≡ nat_cmp x y
longer_cmp x y n = same_cmp (x + n) (y + n) x y by
  where
    by : (o : Ordering) → MatchOrdering o (x < y) (x ≡ y) (y < x) → MatchOrdering o (x + n < y + n) (x + n ≡ y + n) (y + n < x + n)
    by Less h = omega (arith, h)
    by Equal h = omega (arith, h)
    by Greater h = omega (arith, h)

same_long_cmp : (d e : List ℕ) → length d ≡ length e → sibling_cmp d e ≡ slice_cmp nat_cmp (raised d) (raised e)
same_long_cmp d e long = ap (λ (o : Ordering). ordering_then o (slice_cmp nat_cmp (raised d) (raised e))) (sym (nat_cmp_is (length d) (length e) Equal long))

-- names with ends of one length stand in the order of what is before the ends, and then of the ends
joined_cmp : (f g d e : List ℕ) → length d ≡ length e → sibling_cmp (f ++ d) (g ++ e) ≡ ordering_then (sibling_cmp f g) (sibling_cmp d e)
joined_cmp f g d e long =
    (λ i. ordering_then (lengths i) (slice_cmp nat_cmp (raised (f ++ d)) (raised (g ++ e))))
    ∙ by (nat_cmp (length f) (length g)) refl
  where
    lengths : nat_cmp (length (f ++ d)) (length (g ++ e)) ≡ nat_cmp (length f) (length g)
    lengths =
        (λ i. nat_cmp (length-append f d i) ((length-append g e ∙ ap (λ (n : ℕ). length g + n) (sym long)) i))
        ∙ longer_cmp (length f) (length g) (length d)

    alike : length f ≡ length g → slice_cmp nat_cmp (raised (f ++ d)) (raised (g ++ e)) ≡ ordering_then (slice_cmp nat_cmp (raised f) (raised g)) (sibling_cmp d e)
    alike same =
        (λ i. slice_cmp nat_cmp (map-append to_ascii_uppercase f d i) (map-append to_ascii_uppercase g e i))
        ∙ behind_cmp (raised f) (raised g) (raised d) (raised e) (length-map f to_ascii_uppercase ∙ same ∙ sym (length-map g to_ascii_uppercase))
        ∙ ap (ordering_then (slice_cmp nat_cmp (raised f) (raised g))) (sym (same_long_cmp d e long))

    by : (o : Ordering) → o ≡ nat_cmp (length f) (length g) → ordering_then o (slice_cmp nat_cmp (raised (f ++ d)) (raised (g ++ e))) ≡ ordering_then (ordering_then o (slice_cmp nat_cmp (raised f) (raised g))) (sibling_cmp d e)
    by Less h = refl
    by Equal h = alike (ranked (length f) (length g) Equal h)
    by Greater h = refl

pub numbered_cmp : (f g : List ℕ) (a b : ℕ) → a < 2 ^ 32 → b < 2 ^ 32 → sibling_cmp (f ++ hex_digits upper 8 a) (g ++ hex_digits upper 8 b) ≡ ordering_then (sibling_cmp f g) (nat_cmp a b)
numbered_cmp f g a b low high =
    let long = digits_long 8 a ∙ sym (digits_long 8 b) in
    joined_cmp f g (hex_digits upper 8 a) (hex_digits upper 8 b) long
    ∙ ap (ordering_then (sibling_cmp f g)) (same_long_cmp (hex_digits upper 8 a) (hex_digits upper 8 b) long ∙ digits_cmp 8 a b low high)

-- a front with a number, and a name that is taken apart before its last eight units
pub ended_cmp : (f start end : List ℕ) (a : ℕ) → length end ≡ 8 → sibling_cmp (f ++ hex_digits upper 8 a) (start ++ end) ≡ ordering_then (sibling_cmp f start) (sibling_cmp (hex_digits upper 8 a) end)
ended_cmp f start end a eight = joined_cmp f start (hex_digits upper 8 a) end (digits_long 8 a ∙ sym eight)
