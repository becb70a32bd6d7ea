-- Digits of bytes, two at a time, and the numbers of four and of eight.
use Rattle.std.proofs.Common.{◌≡◌, ℕ, ◌+◌, ◌*◌, ◌<◌, List, [], ◌∷◌, ◌++◌, length, get_or, drop, take, refl, sym, ap, ◌∙◌, arith, Some, None, append_assoc}
use Rattle.std.specs.Prelude.{Bool, true, false, ◌&&◌, ◌==◌, if◌then◌else◌}
use Rattle.std.specs.List.{list_all}
use Rattle.std.proofs.lemmas.Bool.{eq-eqb}
use Rattle.std.proofs.lemmas.List.{drop_more, length-drop, length-take-le, take-append-drop}
use Rattle.std.proofs.lemmas.List.Folds.{list_all-append}
use Rattle.carrier_model.specs.HexDigits.{is_digit, digit_of, bytes_in, number_in, number_of}
use Rattle.carrier_model.specs.KeyTexts.{lower, upper}

-- the byte of the two digits at a place
abbrev pub byte_at : List ℕ → ℕ → ℕ
byte_at w k = 16 * digit_of lower (get_or w (2 * k) 0) + digit_of lower (get_or w (2 * k + 1) 0)

abbrev pub are_digits_at : List ℕ → ℕ → Bool
are_digits_at w k = is_digit lower (get_or w (2 * k) 0) && is_digit lower (get_or w (2 * k + 1) 0)

two_more : (w : List ℕ) (k : ℕ) → 2 * k + 1 < length w → drop (2 * k) w ≡ get_or w (2 * k) 0 ∷ get_or w (2 * k + 1) 0 ∷ drop (2 * (k + 1)) w
two_more w k lt =
    let next : 2 * k + 1 + 1 ≡ 2 * (k + 1) = omega arith in
    drop_more w (2 * k) 0 (omega (arith, lt)) ∙ ap (λ l. get_or w (2 * k) 0 ∷ l) (drop_more w (2 * k + 1) 0 lt ∙ ap (λ n. get_or w (2 * k + 1) 0 ∷ drop n w) next)

was_byte : (b : Bool) (byte n : ℕ) → Some byte ≡ (if b then Some n else None) → (b ≡ true) × (byte ≡ n)
was_byte true byte n h = (refl, cc)
was_byte false byte n h = absurd cc

was_none : (b : Bool) (n : ℕ) → None ≡ (if b then Some n else None) → b ≡ false
was_none true n h = absurd cc
was_none false n h = refl

both_digits : (a b : Bool) (rest all : Bool) → (a && b) ≡ true → (a && (b && rest)) ≡ all → rest ≡ all
both_digits true b rest all e h = rw e at h
both_digits false b rest all e h = absurd cc

not_digits : (a b : Bool) (rest : Bool) → (a && b) ≡ false → (a && (b && rest)) ≡ false
not_digits true true rest e = absurd cc
not_digits true false rest e = refl
not_digits false b rest e = refl

pub digits_more : (w : List ℕ) (k byte : ℕ) → 2 * k + 1 < length w → Some byte ≡ (if are_digits_at w k then Some (byte_at w k) else None)
    → list_all (is_digit lower) (drop (2 * k) w) ≡ list_all (is_digit lower) w → list_all (is_digit lower) (drop (2 * (k + 1)) w) ≡ list_all (is_digit lower) w
digits_more w k byte lt e h =
    both_digits (is_digit lower (get_or w (2 * k) 0)) (is_digit lower (get_or w (2 * k + 1) 0)) (list_all (is_digit lower) (drop (2 * (k + 1)) w)) _
    (was_byte (are_digits_at w k) byte (byte_at w k) e).0 (ap (list_all (is_digit lower)) (sym (two_more w k lt)) ∙ h)

pub bytes_more : (w text : List ℕ) (k byte : ℕ) → 2 * k + 1 < length w → Some byte ≡ (if are_digits_at w k then Some (byte_at w k) else None)
    → text ++ bytes_in (drop (2 * k) w) ≡ bytes_in w → (text ++ byte ∷ []) ++ bytes_in (drop (2 * (k + 1)) w) ≡ bytes_in w
bytes_more w text k byte lt e h =
    append_assoc text (byte ∷ []) (bytes_in (drop (2 * (k + 1)) w))
    ∙ (ap (λ b. text ++ b ∷ bytes_in (drop (2 * (k + 1)) w)) (was_byte (are_digits_at w k) byte (byte_at w k) e).1
    ∙ (ap (λ l. text ++ bytes_in l) (sym (two_more w k lt)) ∙ h))

-- two characters that are no digits
pub no_digits : (w : List ℕ) (k : ℕ) → 2 * k + 1 < length w → None ≡ (if are_digits_at w k then Some (byte_at w k) else None)
    → list_all (is_digit lower) (drop (2 * k) w) ≡ list_all (is_digit lower) w → list_all (is_digit lower) w ≡ false
no_digits w k lt e h =
    sym h ∙ (ap (list_all (is_digit lower)) (two_more w k lt)
    ∙ not_digits (is_digit lower (get_or w (2 * k) 0)) (is_digit lower (get_or w (2 * k + 1) 0)) (list_all (is_digit lower) (drop (2 * (k + 1)) w)) (was_none (are_digits_at w k) (byte_at w k) e))

-- ---- the number of four digits

digit_was : (b : Bool) (a n : ℕ) → Some a ≡ (if b then Some n else None) → (b ≡ true) × (a ≡ n)
digit_was true a n h = (refl, cc)
digit_was false a n h = absurd cc

-- a digit is this one
abbrev pub IsDigitAt : ℕ → ℕ → Type 0
IsDigitAt c a = Some a ≡ (if is_digit upper c then Some (digit_of upper c) else None)

pub four_are : (w : List ℕ) (a b c d : ℕ) → length w ≡ 4 → IsDigitAt (get_or w 0 0) a → IsDigitAt (get_or w 1 0) b → IsDigitAt (get_or w 2 0) c → IsDigitAt (get_or w 3 0) d
    → Some (16 * (16 * (16 * a + b) + c) + d) ≡ number_of 4 w
four_are [] a b c d l p q r s = absurd (omega (arith, l))
four_are (k ∷ []) a b c d l p q r s = absurd (omega (arith, l))
four_are (k ∷ m ∷ []) a b c d l p q r s = absurd (omega (arith, l))
four_are (k ∷ m ∷ n ∷ []) a b c d l p q r s = absurd (omega (arith, l))
four_are (k ∷ m ∷ n ∷ o ∷ t ∷ w) a b c d l p q r s = absurd (omega (arith, l))
four_are (k ∷ m ∷ n ∷ o ∷ []) a b c d l p q r s =
    let e = digit_was (is_digit upper k) a (digit_of upper k) p in
    let f = digit_was (is_digit upper m) b (digit_of upper m) q in
    let g = digit_was (is_digit upper n) c (digit_of upper n) r in
    let h = digit_was (is_digit upper o) d (digit_of upper o) s in
    let first : digit_of upper k ≡ 0 + digit_of upper k = omega arith in
    rw (e.0, f.0, g.0, h.0, e.1, f.1, g.1, h.1) (ap (λ z. Some (16 * (16 * (16 * z + digit_of upper m) + digit_of upper n) + digit_of upper o)) first)

-- ---- the number of eight digits

number_is : (w : List ℕ) (count n : ℕ) → list_all (is_digit upper) w ≡ true → length w ≡ count → n ≡ number_in w → Some n ≡ number_of count w
number_is w count n h long e =
    let same : (length w == count) ≡ true = eq-eqb (length w) count long in
    rw (h, same) (ap Some e)

number_is_none : (w : List ℕ) (count : ℕ) → list_all (is_digit upper) w ≡ false → None ≡ number_of count w
number_is_none w count h = rw h refl

was_number : (w : List ℕ) (count n : ℕ) → Some n ≡ number_of count w → (list_all (is_digit upper) w ≡ true) × (n ≡ number_in w)
was_number w count n e = by (list_all (is_digit upper) w) (length w == count) refl e
  where
    by : (a b : Bool) → list_all (is_digit upper) w ≡ a → Some n ≡ (if a && b then Some (number_in w) else None) → (list_all (is_digit upper) w ≡ true) × (n ≡ number_in w)
    by true true h is = (h, cc)
    by true false h is = absurd cc
    by false b h is = absurd cc

was_no_number : (w : List ℕ) (count : ℕ) → length w ≡ count → None ≡ number_of count w → list_all (is_digit upper) w ≡ false
was_no_number w count long e = by (list_all (is_digit upper) w) (length w == count) refl (eq-eqb (length w) count long) e
  where
    by : (a b : Bool) → list_all (is_digit upper) w ≡ a → b ≡ true → None ≡ (if a && b then Some (number_in w) else None) → list_all (is_digit upper) w ≡ false
    by true true h same is = absurd cc
    by true false h same is = absurd cc
    by false b h same is = h

in_halves : (w : List ℕ) (a b : Bool) → list_all (is_digit upper) (take 4 w) ≡ a → list_all (is_digit upper) (drop 4 w) ≡ b → list_all (is_digit upper) w ≡ (a && b)
in_halves w a b h k = ap (list_all (is_digit upper)) (sym (take-append-drop 4 w)) ∙ (list_all-append (is_digit upper) (take 4 w) (drop 4 w) ∙ rw (h, k) refl)

halves_add : (w : List ℕ) → length w ≡ 8 → 65536 * number_in (take 4 w) + number_in (drop 4 w) ≡ number_in w
halves_add (a ∷ b ∷ c ∷ d ∷ e ∷ f ∷ g ∷ h ∷ []) long = omega arith
halves_add _ long = absurd (omega (arith, long))

pub eight_are : (w : List ℕ) (high low : ℕ) → length w ≡ 8 → Some high ≡ number_of 4 (take 4 w) → Some low ≡ number_of 4 (drop 4 w) → Some (65536 * high + low) ≡ number_of 8 w
eight_are w high low long p q =
    let front = was_number (take 4 w) 4 high p in
    let back = was_number (drop 4 w) 4 low q in
    number_is w 8 (65536 * high + low) (in_halves w true true front.0 back.0) long (omega (arith, front.1, back.1, halves_add w long))

pub no_front : (w : List ℕ) → length w ≡ 8 → None ≡ number_of 4 (take 4 w) → None ≡ number_of 8 w
no_front w long e = number_is_none w 8 (in_halves w false (list_all (is_digit upper) (drop 4 w)) (was_no_number (take 4 w) 4 (length-take-le 4 w (omega (arith, long))) e) refl)

pub no_back : (w : List ℕ) → length w ≡ 8 → None ≡ number_of 4 (drop 4 w) → None ≡ number_of 8 w
no_back w long e =
    let back : list_all (is_digit upper) (drop 4 w) ≡ false = was_no_number (drop 4 w) 4 (length-drop 4 w ∙ omega (arith, long)) e in
    number_is_none w 8 (in_halves w (list_all (is_digit upper) (take 4 w)) false refl back ∙ and_false (list_all (is_digit upper) (take 4 w)))
  where
    and_false : (a : Bool) → (a && false) ≡ false
    and_false true = refl
    and_false false = refl
