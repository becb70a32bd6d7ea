-- The UTF-8 of 16-bit units is UTF-8.
use Rattle.std.proofs.Common.{◌≡◌, refl, ℕ, ◌<◌, ◌^◌, List, [], ◌∷◌, Bool, true, false, Option, IsUtf8, arith}
use Rattle.std.specs.Prelude.{nat_le, nat_lt}
use Rattle.std.specs.Option.{unwrap_or}
use Rattle.std.specs.List.{AllByRecursion}
use Rattle.std.specs.Char.Utf16.{utf16_chars, utf16_lossy_chars, lone_unit_char, surrogate_pair_char, is_high_surrogate, is_low_surrogate}
use Rattle.std.proofs.Math.Utf8.{scalar, scalars, low_scalar}
use Rattle.std.proofs.lemmas.Bool.Decides.{nat_tests}
use Rattle.json_model.specs.Texts.{utf8_of}

-- a character, or U+FFFD in the place of a surrogate
abbrev kept : Option ℕ → ℕ
kept o = unwrap_or o 0xFFFD

lone_by : (u : ℕ) (a b : Bool) → u < 2 ^ 16 → nat_le 0xD800 u ≡ a → nat_lt u 0xE000 ≡ b → scalar (kept (lone_unit_char u)) ≡ true
lone_by u false b small ea eb = rw ea (low_scalar u (grind (arith, nat_tests)))
lone_by u true true small ea eb = rw (ea, eb) refl
lone_by u true false small ea eb =
    let x : nat_lt u 55296 ≡ false = grind (arith, nat_tests) in
    let y : nat_le 57344 u ≡ true = grind (arith, nat_tests) in
    let z : nat_lt u 1114112 ≡ true = grind (arith, nat_tests) in
    rw (ea, eb) (rw (x, y, z) refl)

lone_scalar : (u : ℕ) → u < 2 ^ 16 → scalar (kept (lone_unit_char u)) ≡ true
lone_scalar u small = lone_by u (nat_le 0xD800 u) (nat_lt u 0xE000) small refl refl

pair_scalar : (u v : ℕ) → is_high_surrogate u ≡ true → is_low_surrogate v ≡ true → scalar (surrogate_pair_char u v) ≡ true
pair_scalar u v h l =
    let p = surrogate_pair_char u v in
    let c : u < 0xDC00 = grind (arith, nat_tests) in
    let d : v < 0xE000 = grind (arith, nat_tests) in
    let low : nat_lt p 55296 ≡ false = grind (arith, nat_tests) in
    let from : nat_le 57344 p ≡ true = grind (arith, nat_tests) in
    let below : nat_lt p 1114112 ≡ true = grind (arith, nat_tests) in
    rw (low, from, below) refl

two_units : (u v : ℕ) (us : List ℕ) (a b : Bool) → u < 2 ^ 16 → is_high_surrogate u ≡ a → is_low_surrogate v ≡ b → scalars (utf16_lossy_chars us) ≡ true → scalars (utf16_lossy_chars (v ∷ us)) ≡ true → scalars (utf16_lossy_chars (u ∷ v ∷ us)) ≡ true
unfolding utf16_chars
two_units u v us true true small ea eb rest more = rw (ea, eb) (rw (pair_scalar u v ea eb) rest)
two_units u v us true false small ea eb rest more = rw (ea, eb) (rw (lone_scalar u small) more)
two_units u v us false b small ea eb rest more = rw ea (rw (lone_scalar u small) more)

chars_scalar : (us : List ℕ) → AllByRecursion (λ u. u < 2 ^ 16) us → scalars (utf16_lossy_chars us) ≡ true
unfolding utf16_chars
chars_scalar [] small = refl
chars_scalar (u ∷ []) small = rw (lone_scalar u small.0) refl
chars_scalar (u ∷ v ∷ us) small = two_units u v us (is_high_surrogate u) (is_low_surrogate v) small.0 refl refl (chars_scalar us small.1.1) (chars_scalar (v ∷ us) small.1)

pub IsUtf8-utf8_of : (us : List ℕ) → AllByRecursion (λ u. u < 2 ^ 16) us → IsUtf8 (utf8_of us)
IsUtf8-utf8_of us small = (utf16_lossy_chars us, (chars_scalar us small, refl))
