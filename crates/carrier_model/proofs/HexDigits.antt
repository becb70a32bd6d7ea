-- What a digit says, and how it is said again.
use Rattle.std.proofs.Common.{◌≡◌, ℕ, ◌+◌, ◌-◌, ◌<◌, ◌≤◌, Bool, true, false, refl, sym, arith, true≢false}
use Rattle.std.specs.Prelude.{◌&&◌, ◌||◌, nat_le, nat_lt}
use Rattle.std.proofs.lemmas.Bool.Decides.{nat_tests}
use Rattle.carrier_model.specs.HexDigits.{is_digit, digit_of}
use Rattle.carrier_model.specs.KeyTexts.{hex_digit}

both_true : (a b : Bool) → (a && b) ≡ true → (a ≡ true) × (b ≡ true)
both_true true b h = (refl, h)
both_true false b h = absurd (true≢false (sym h))

pub record Reads (letter d : ℕ) : Type 0 where
  pub digit : is_digit letter (hex_digit letter d) ≡ true
  pub value : digit_of letter (hex_digit letter d) ≡ d

reads_at : (letter d : ℕ) (b : Bool) → 0x3A ≤ letter → d < 16 → nat_lt d 10 ≡ b → Reads letter d
reads_at letter d true behind lt e =
    let x : nat_le 0x30 (0x30 + d) ≡ true = grind (arith, nat_tests) in
    let y : nat_le (0x30 + d) 0x39 ≡ true = grind (arith, nat_tests) in
    let z : nat_lt (0x30 + d) letter ≡ true = grind (arith, nat_tests) in
    let v : 0x30 + d - 0x30 ≡ d = omega arith in
    record { digit = rw (e, x, y) refl; value = rw (e, z) v }
reads_at letter d false behind lt e =
    let c = letter + d - 10 in
    let from : 10 ≤ d = grind (arith, nat_tests) in
    let x : nat_le 0x30 c ≡ true = grind (arith, nat_tests) in
    let y : nat_le c 0x39 ≡ false = grind (arith, nat_tests) in
    let w : nat_le letter c ≡ true = grind (arith, nat_tests) in
    let u : nat_le c (letter + 5) ≡ true = grind (arith, nat_tests) in
    let z : nat_lt c letter ≡ false = grind (arith, nat_tests) in
    let v : letter + d - 10 - letter + 10 ≡ d = omega arith in
    record { digit = rw (e, x, y, w, u) refl; value = rw (e, z) v }

pub reads_digit : (letter d : ℕ) → 0x3A ≤ letter → d < 16 → Reads letter d
reads_digit letter d behind lt = reads_at letter d (nat_lt d 10) behind lt refl

pub record Prints (letter c : ℕ) : Type 0 where
  pub small : digit_of letter c < 16
  pub again : hex_digit letter (digit_of letter c) ≡ c

or_true : (a b : Bool) → (a || b) ≡ true → (a ≡ false → b ≡ true)
or_true true b h e = absurd (true≢false e)
or_true false b h e = h

prints_at : (letter c : ℕ) (b : Bool) → 0x3A ≤ letter → nat_lt c letter ≡ b → is_digit letter c ≡ true → (first : Bool) → (nat_le 0x30 c && nat_le c 0x39) ≡ first → Prints letter c
prints_at letter c true behind e h true f =
    let both = both_true (nat_le 0x30 c) (nat_le c 0x39) f in
    let from : 0x30 ≤ c = let p = both.0 in grind (arith, nat_tests) in
    let to : c ≤ 0x39 = let p = both.1 in grind (arith, nat_tests) in
    let x : nat_lt (c - 0x30) 10 ≡ true = grind (arith, nat_tests) in
    let small : c - 0x30 < 16 = omega arith in
    let again : 0x30 + (c - 0x30) ≡ c = omega arith in
    record { small = rw e small; again = rw (e, x) again }
prints_at letter c false behind e h true f =
    let both = both_true (nat_le 0x30 c) (nat_le c 0x39) f in
    let to : c ≤ 0x39 = let p = both.1 in grind (arith, nat_tests) in
    let no : letter ≤ c = grind (arith, nat_tests) in
    absurd (omega (arith, to, no, behind))
prints_at letter c b behind e h false f =
    let both = both_true (nat_le letter c) (nat_le c (letter + 5)) (or_true _ _ h f) in
    let from : letter ≤ c = let p = both.0 in grind (arith, nat_tests) in
    let to : c ≤ letter + 5 = let p = both.1 in grind (arith, nat_tests) in
    let y : nat_lt c letter ≡ false = grind (arith, nat_tests) in
    let x : nat_lt (c - letter + 10) 10 ≡ false = grind (arith, nat_tests) in
    let small : c - letter + 10 < 16 = omega arith in
    let again : letter + (c - letter + 10) - 10 ≡ c = omega arith in
    record { small = rw y small; again = rw (y, x) again }

pub prints_digit : (letter c : ℕ) → 0x3A ≤ letter → is_digit letter c ≡ true → Prints letter c
prints_digit letter c behind h = prints_at letter c (nat_lt c letter) behind refl h (nat_le 0x30 c && nat_le c 0x39) refl
