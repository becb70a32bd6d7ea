-- The words that are numbers of samples.
use Rattle.std.proofs.Common.{◌≡◌, ◌≢◌, ℕ, ◌<◌, ◌≤◌, ◌^◌, List, [], ◌∷◌, length, refl, arith, rules, ◌∙◌, ◌⊎◌, inl, inr, Result, Ok, Err, Some, None}
use Rattle.std.specs.Prelude.{Bool, true, false, ◌==◌, ◌&&◌, nat_le, slice_index_or}
use Rattle.std.specs.List.{list_all}
use Rattle.std.specs.Str.Parse.{ParsesUnsigned}
use Rattle.std.proofs.lemmas.Bool.{le-leb, leb-true, eqb-true, eq-eqb, ne_eqb}
use Rattle.std.proofs.lemmas.Str.Parse.{IsNumeralModel, numerals_by_fold, parse_plain, digits_value_short}
use Rattle.job_model.specs.Commands as plain
use Rattle.edit_model.specs.EditWords.{is_digit, number_behind}
use Rattle.job_model.specs.Commands.{is_number, sample_of}

own : IsNumeralModel (λ ds. list_all is_digit ds ≡ true) (number_behind 0)
own = numerals_by_fold _ (search rules) number_behind (search rules)

and_true : (x : Bool) → (x && true) ≡ x
and_true true = refl
and_true false = refl

and_false : (x : Bool) → (x && false) ≡ false
and_false true = refl
and_false false = refl

-- ---- words that are no number

none_of : (w : List ℕ) → is_number w ≡ false → sample_of w ≡ None
none_of w e = rw e refl

pub empty : (w : List ℕ) → length w ≡ 0 → sample_of w ≡ None
empty [] e = refl
empty (c ∷ more) e = absurd (omega (arith, e))

pub too_long : (w : List ℕ) → 4 < length w → sample_of w ≡ None
too_long w long = none_of w (by (nat_le (length w) 4) refl)
  where
    by : (a : Bool) → nat_le (length w) 4 ≡ a → is_number w ≡ false
    by true p = let few : length w ≤ 4 = leb-true (length w) 4 p in absurd (omega (arith, few, long))
    by false p = rw (p, and_false (nat_le 1 (length w))) refl

pub plus_first : (w : List ℕ) → 0 < length w → slice_index_or w 0 0 ≡ 43 → sample_of w ≡ None
plus_first [] some e = absurd (omega (arith, some))
plus_first (c ∷ more) some e = none_of (c ∷ more) (rw e (and_false (nat_le 1 (length (43 ∷ more)) && nat_le (length (43 ∷ more)) 4)))

pub zero_first : (w : List ℕ) → 1 < length w → slice_index_or w 0 0 ≡ 48 → sample_of w ≡ None
zero_first [] long e = absurd (omega (arith, long))
zero_first (c ∷ []) long e = absurd (omega (arith, long))
zero_first (c ∷ d ∷ more) long e =
    let w = c ∷ d ∷ more in
    let other : (length (d ∷ more) == 0) ≡ false = ne_eqb (length (d ∷ more)) 0 (λ z. omega (arith, z)) in
    let zero : (c == 0x30) ≡ true = eq-eqb c 0x30 e in
    none_of w (rw (zero, other, and_false (list_all is_digit w)) (and_false (nat_le 1 (length w) && nat_le (length w) 4)))

-- ---- words of one to four bytes, with no zero before others

decided : (w : List ℕ) → 0 < length w → length w ≤ 4 → (slice_index_or w 0 0 ≡ 48 → length w ≡ 1) → is_number w ≡ list_all is_digit w
decided [] some few zero = absurd (omega (arith, some))
decided (c ∷ more) some few zero = by (c == 0x30) (length more == 0) refl refl
  where
    w : List ℕ
    w = c ∷ more

    by : (z e : Bool) → (c == 0x30) ≡ z → (length more == 0) ≡ e → is_number (c ∷ more) ≡ list_all is_digit (c ∷ more)
    by false e p q = rw (le-leb 1 (length (c ∷ more)) some, le-leb (length (c ∷ more)) 4 few, p) (and_true (list_all is_digit (c ∷ more)))
    by true true p q = rw (le-leb 1 (length (c ∷ more)) some, le-leb (length (c ∷ more)) 4 few, p, q) (and_true (list_all is_digit (c ∷ more)))
    by true false p q =
        let one : length (c ∷ more) ≡ 1 = zero (eqb-true c 0x30 p) in
        let none : length more ≡ 0 = omega (arith, one) in
        let yes : (length more == 0) ≡ true = eq-eqb (length more) 0 none in
        absurd cc

-- what stands there and is parsed as a number
pub few_enough : {E : Type 0} (w : List ℕ) (n : ℕ) (r : Result ℕ E) → r ≡ Ok n → 0 < length w → length w ≤ 4 → slice_index_or w 0 0 ≢ 43 → (slice_index_or w 0 0 ≡ 48 → length w ≡ 1) → ParsesUnsigned 32 10 w r → n ≤ 5000 → sample_of w ≡ Some (plain.sample n)
few_enough w n r is some few sign zero h most =
    let read = rw is at (parse_plain own 32 w r h sign) in
    let number : is_number w ≡ true = decided w some few zero ∙ read.0.0 in
    let value : n ≡ number_behind 0 w = read.1 in
    let fits : nat_le (number_behind 0 w) 5000 ≡ true = le-leb (number_behind 0 w) 5000 (omega (arith, most, value)) in
    rw (number, fits, value) refl

pub too_great : {E : Type 0} (w : List ℕ) (n : ℕ) (r : Result ℕ E) → r ≡ Ok n → slice_index_or w 0 0 ≢ 43 → ParsesUnsigned 32 10 w r → 5000 < n → sample_of w ≡ None
too_great w n r is sign h more = by (nat_le (number_behind 0 w) 5000) refl
  where
    by : (a : Bool) → nat_le (number_behind 0 w) 5000 ≡ a → sample_of w ≡ None
    by true p =
        let read = rw is at (parse_plain own 32 w r h sign) in
        let value : n ≡ number_behind 0 w = read.1 in
        let fits : number_behind 0 w ≤ 5000 = leb-true (number_behind 0 w) 5000 p in
        absurd (omega (arith, more, value, fits))
    by false p = rw (p, and_false (is_number w)) refl

no_list : (w : List ℕ) → 0 < length w → length w ≤ 4 → ((list_all is_digit w ≡ true) × (0 < length w) × (number_behind 0 w < 2 ^ 32) → ⊥) → list_all is_digit w ≡ false
no_list w some few h = by (list_all is_digit w) refl
  where
    by : (a : Bool) → list_all is_digit w ≡ a → list_all is_digit w ≡ false
    by true p = let short : number_behind 0 w < 10 ^ 4 = digits_value_short own w 4 p few in absurd (h (p, some, omega (arith, short)))
    by false p = p

pub no_digits : {E : Type 0} (w : List ℕ) (e : E) → 0 < length w → length w ≤ 4 → slice_index_or w 0 0 ≢ 43 → (slice_index_or w 0 0 ≡ 48 → length w ≡ 1) → ParsesUnsigned {E = E} 32 10 w (Err e) → sample_of w ≡ None
no_digits {E = E} w e some few sign zero h = none_of w (decided w some few zero ∙ no_list w some few (parse_plain own {E = E} 32 w (Err e) h sign))

pub at_most_one : (d : List ℕ) → 0 < length d → ((slice_index_or d 0 0 ≡ 48) × (length d ≤ 1)) ⊎ (slice_index_or d 0 0 ≡ 48 → ⊥) → slice_index_or d 0 0 ≡ 48 → length d ≡ 1
at_most_one d some (inl x) e = omega (arith, some, x.1)
at_most_one d some (inr n) e = absurd (n e)
