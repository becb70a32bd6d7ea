-- Words that are parsed as decimal numbers.
use Rattle.std.proofs.Common.{◌≡◌, ◌≢◌, ℕ, ◌+◌, ◌<◌, ◌≤◌, ◌^◌, List, [], ◌∷◌, length, refl, arith, rules, sym, ◌∙◌, Result, Ok, Err, Some, None, get_or}
use Rattle.std.specs.Prelude.{Bool, true, false, not, ◌==◌, ◌&&◌, ◌||◌, nat_lt}
use Rattle.std.specs.List.{list_all}
use Rattle.std.specs.Str.Parse.{ParsesUnsigned}
use Rattle.std.proofs.lemmas.Bool.{lt-ltb, lt-leb, le-leb, ltb-true, eqb-true, eq-eqb, ne_eqb}
use Rattle.std.proofs.lemmas.Str.Parse.{IsNumeralModel, numerals_by_fold, parse_plain, digits_value_short}
use Rattle.edit_model.specs.EditWords.{is_digit, is_decimal, number_behind, where_true, decimal_of, place_number, numbers_below, number_value}
use Rattle.carrier_model.specs.Values.{number}
use Rattle.edit_words.specs.Reading.{decimal_of_64}

own : IsNumeralModel (λ ds. list_all is_digit ds ≡ true) (number_behind 0)
own = numerals_by_fold _ (search rules) number_behind (search rules)

and_true : (x : Bool) → (x && true) ≡ x
and_true true = refl
and_true false = refl

and_false : (x : Bool) → (x && false) ≡ false
and_false true = refl
and_false false = refl

-- ---- words that are no number

none_of : (w : List ℕ) → is_decimal w ≡ false → decimal_of_64 w ≡ None
none_of w e = rw e refl

pub empty : (w : List ℕ) → length w ≡ 0 → decimal_of_64 w ≡ None
empty [] e = refl
empty (c ∷ more) e = absurd (omega (arith, e))

pub plus_first : (w : List ℕ) → 0 < length w → get_or w 0 0 ≡ 43 → decimal_of_64 w ≡ None
plus_first [] some e = absurd (omega (arith, some))
plus_first (c ∷ more) some e = none_of (c ∷ more) (rw e refl)

pub zero_first : (w : List ℕ) → 1 < length w → get_or w 0 0 ≡ 48 → decimal_of_64 w ≡ None
zero_first [] long e = absurd (omega (arith, long))
zero_first (c ∷ []) long e = absurd (omega (arith, long))
zero_first (c ∷ d ∷ more) long e =
    let other : (length (d ∷ more) == 0) ≡ false = ne_eqb (length (d ∷ more)) 0 (λ z. omega (arith, z)) in
    let zero : (c == 0x30) ≡ true = eq-eqb c 0x30 e in
    none_of (c ∷ d ∷ more) (rw (zero, other, and_false (list_all is_digit (c ∷ d ∷ more))))

-- ---- words without a zero before other digits

decided : (w : List ℕ) → 0 < length w → (get_or w 0 0 ≡ 48 → length w ≤ 1) → is_decimal w ≡ list_all is_digit w
decided [] some zero = absurd (omega (arith, some))
decided (c ∷ more) some zero = by (c == 0x30) (length more == 0) refl refl
  where
    by : (z e : Bool) → (c == 0x30) ≡ z → (length more == 0) ≡ e → (list_all is_digit (c ∷ more) && (not z || e)) ≡ list_all is_digit (c ∷ more)
    by false e p q = and_true (list_all is_digit (c ∷ more))
    by true true p q = and_true (list_all is_digit (c ∷ more))
    by true false p q =
        let one : length (c ∷ more) ≤ 1 = zero (eqb-true c 0x30 p) in
        let none : length more ≡ 0 = omega (arith, one) in
        let yes : (length more == 0) ≡ true = eq-eqb (length more) 0 none in
        absurd cc

pub read_as : {E : Type 0} (w : List ℕ) (n : ℕ) (r : Result ℕ E) → r ≡ Ok n → 0 < length w → get_or w 0 0 ≢ 43 → (get_or w 0 0 ≡ 48 → length w ≤ 1) → ParsesUnsigned 64 10 w r → Some n ≡ decimal_of_64 w
read_as w n r is some sign zero h =
    let read = rw is at (parse_plain own 64 w r h sign) in
    let number : is_decimal w ≡ true = decided w some zero ∙ read.0.0 in
    let value : n ≡ number_behind 0 w = read.1 in
    let fits : nat_lt (number_behind 0 w) (2 ^ 64) ≡ true = lt-ltb (number_behind 0 w) (2 ^ 64) read.0.2 in
    rw (number, fits, value) refl

pub read_none : {E : Type 0} (w : List ℕ) (e : E) → 0 < length w → get_or w 0 0 ≢ 43 → (get_or w 0 0 ≡ 48 → length w ≤ 1) → ParsesUnsigned {E = E} 64 10 w (Err e) → None ≡ decimal_of_64 w
read_none {E = E} w e some sign zero h = by (list_all is_digit w) (nat_lt (number_behind 0 w) (2 ^ 64)) refl refl
  where
    by : (a b : Bool) → list_all is_digit w ≡ a → nat_lt (number_behind 0 w) (2 ^ 64) ≡ b → None ≡ decimal_of_64 w
    by true true p q = absurd (parse_plain own {E = E} 64 w (Err e) h sign (p, some, ltb-true (number_behind 0 w) (2 ^ 64) q))
    by true false p q = rw (decided w some zero ∙ p, q) refl
    by false b p q = rw (decided w some zero ∙ p) refl

-- a number of few digits is held
both : (a b : Bool) → (a && b) ≡ true → a ≡ true
both true b h = refl
both false b h = absurd cc

all_digits : (w : List ℕ) → is_decimal w ≡ true → list_all is_digit w ≡ true
all_digits [] h = absurd cc
all_digits (c ∷ more) h = both (list_all is_digit (c ∷ more)) (not (c == 0x30) || (length more == 0)) h

short_held : (w : List ℕ) → length w ≤ 9 → decimal_of_64 w ≡ decimal_of w
short_held w few = by (is_decimal w) refl
  where
    by : (a : Bool) → is_decimal w ≡ a → decimal_of_64 w ≡ decimal_of w
    by true p =
        let short : number_behind 0 w < 10 ^ 9 = digits_value_short own w 9 (all_digits w p) few in
        let fits : nat_lt (number_behind 0 w) (2 ^ 64) ≡ true = lt-ltb (number_behind 0 w) (2 ^ 64) (omega (arith, short)) in
        rw (p, fits) refl
    by false p = rw p refl

pub short_is : (w : List ℕ) → length w ≤ 9 → decimal_of_64 w ≡ place_number w
short_is w few = short_held w few ∙ rw (le-leb (length w) 9 few) refl

pub long_is : (w : List ℕ) → 9 < length w → None ≡ place_number w
long_is w long = rw (lt-leb (length w) 9 long) refl

held : (w : List ℕ) (n : ℕ) → Some n ≡ decimal_of_64 w → Some n ≡ decimal_of w
held w n h = by (is_decimal w) (nat_lt (number_behind 0 w) (2 ^ 64)) h
  where
    by : (a b : Bool) → Some n ≡ where_true (a && b) (number_behind 0 w) → Some n ≡ where_true a (number_behind 0 w)
    by true true e = e
    by true false e = absurd cc
    by false b e = absurd cc

pub value_read : (kind most n : ℕ) (w : List ℕ) → most + 1 ≡ numbers_below kind → Some n ≡ decimal_of_64 w → n ≤ most → Some (number kind n) ≡ number_value kind w
value_read kind most n w below read le =
    let fits : nat_lt n (numbers_below kind) ≡ true = lt-ltb n (numbers_below kind) (omega (arith, le, below)) in
    rw (sym (held w n read), fits) refl
