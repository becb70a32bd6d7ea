-- Well-formed UTF-16 units, as characters and again as units.
use Rattle.std.proofs.Common.{◌≡◌, ℕ, ◌+◌, ◌-◌, ◌*◌, ◌<◌, ◌≤◌, ◌^◌, ◌%◌, ◌/◌, List, [], ◌∷◌, length, map, Bool, true, false, Some, None, refl, ap, sym, ◌∙◌, arith, true≢false}
use Rattle.std.specs.Prelude.{nat_le, nat_lt, not, ◌||◌, is_some}
use Rattle.std.proofs.Math.Utf8.{scalar, scalars, low_scalar}
use Rattle.std.proofs.lemmas.Bool.Decides.{nat_tests}
use Rattle.std.proofs.lemmas.Str.{chars-encodes}
use Rattle.std.proofs.str.Utf16.{one_unit, pair_units}
use Rattle.std.specs.Char.Escape.{encode_utf16}
use Rattle.std.specs.Char.Utf16.{has_unpaired_surrogate, utf16_lossy_chars, utf16_chars, lone_unit_char, surrogate_pair_char, is_high_surrogate, is_low_surrogate}
use Rattle.std.specs.List.{flat_map, list_any, AllByRecursion}
use Rattle.std.specs.Option.{unwrap_or}
use Rattle.carrier_model.specs.Bytes.{units_of, unit_bytes}
use Rattle.json_model.specs.ByteTrees.{AreBytes}
use Rattle.json_model.specs.Texts.{utf8_of, utf16_of}

-- a unit by itself, which is no surrogate
record IsLone (u : ℕ) : Type 0 where
  char : lone_unit_char u ≡ Some u
  scalar_is : scalar u ≡ true
  units : encode_utf16 u ≡ u ∷ []

lone_at : (u : ℕ) (a b : Bool) → u < 0x10000 → nat_le 0xD800 u ≡ a → nat_lt u 0xE000 ≡ b → not (is_some (lone_unit_char u)) ≡ false → IsLone u
lone_at u false b lt ea eb h = record { char = rw ea refl; scalar_is = low_scalar u (grind (arith, nat_tests)); units = one_unit u lt }
lone_at u true false lt ea eb h =
    let from : 0xE000 ≤ u = grind (arith, nat_tests) in
    let x : nat_lt u 55296 ≡ false = grind (arith, nat_tests) in
    let y : nat_le 57344 u ≡ true = grind (arith, nat_tests) in
    let z : nat_lt u 1114112 ≡ true = grind (arith, nat_tests) in
    record { char = rw (ea, eb) refl; scalar_is = rw (x, y, z) refl; units = one_unit u lt }
lone_at u true true lt ea eb h =
    let no : lone_unit_char u ≡ None = rw (ea, eb) refl in
    absurd (true≢false (sym (ap (λ o. not (is_some o)) no) ∙ h))

-- the characters of well-formed units have these units, and are characters
record AreWell (units : List ℕ) : Type 0 where
  scalars_are : scalars (utf16_lossy_chars units) ≡ true
  again : flat_map encode_utf16 (utf16_lossy_chars units) ≡ units

or_false : (a b : Bool) → (a || b) ≡ false → (a ≡ false) × (b ≡ false)
or_false false b h = (refl, h)
or_false true b h = absurd (true≢false h)

well_lone : (u : ℕ) (us : List ℕ) → u < 0x10000 → utf16_chars (u ∷ us) ≡ lone_unit_char u ∷ utf16_chars us → has_unpaired_surrogate (u ∷ us) ≡ false → (has_unpaired_surrogate us ≡ false → AreWell us) → AreWell (u ∷ us)
well_lone u us lt e h rest =
    let both = or_false (not (is_some (lone_unit_char u))) (has_unpaired_surrogate us) (sym (ap (list_any (λ o. not (is_some o))) e) ∙ h) in
    let here = lone_at u (nat_le 0xD800 u) (nat_lt u 0xE000) lt refl refl both.0 in
    let more = rest both.1 in
    let is : utf16_lossy_chars (u ∷ us) ≡ u ∷ utf16_lossy_chars us = ap (map (λ o. unwrap_or o 0xFFFD)) (e ∙ ap (λ o. o ∷ utf16_chars us) here.char) in
    record {
      scalars_are = ap scalars is ∙ rw (here.scalar_is) more.scalars_are;
      again = ap (flat_map encode_utf16) is ∙ rw (here.units) (ap (λ l. u ∷ l) more.again);
    }

well_pair : (u v : ℕ) (us : List ℕ) → 0xD800 ≤ u → u < 0xDC00 → 0xDC00 ≤ v → v < 0xE000 → utf16_chars (u ∷ v ∷ us) ≡ Some (surrogate_pair_char u v) ∷ utf16_chars us → has_unpaired_surrogate (u ∷ v ∷ us) ≡ false → (has_unpaired_surrogate us ≡ false → AreWell us) → AreWell (u ∷ v ∷ us)
well_pair u v us a b c d e h rest =
    let p = surrogate_pair_char u v in
    let more = rest (sym (ap (list_any (λ o. not (is_some o))) e) ∙ h) in
    let is : utf16_lossy_chars (u ∷ v ∷ us) ≡ p ∷ utf16_lossy_chars us = ap (map (λ o. unwrap_or o 0xFFFD)) e in
    let low : nat_lt p 55296 ≡ false = grind (arith, nat_tests) in
    let from : nat_le 57344 p ≡ true = grind (arith, nat_tests) in
    let below : nat_lt p 1114112 ≡ true = grind (arith, nat_tests) in
    let one : scalar p ≡ true = rw (low, from, below) refl in
    let same : p ≡ 0x1_0000 + ((u - 0xD800) * 0x400 + (v - 0xDC00)) = omega arith in
    let two : encode_utf16 p ≡ u ∷ v ∷ [] = ap encode_utf16 same ∙ pair_units u v a c d in
    record {
      scalars_are = ap scalars is ∙ rw one more.scalars_are;
      again = ap (flat_map encode_utf16) is ∙ rw two (ap (λ l. u ∷ v ∷ l) more.again);
    }

well_at : (u v : ℕ) (us : List ℕ) (a b : Bool) → is_high_surrogate u ≡ a → is_low_surrogate v ≡ b → u < 0x10000 → has_unpaired_surrogate (u ∷ v ∷ us) ≡ false
    → (has_unpaired_surrogate us ≡ false → AreWell us) → (has_unpaired_surrogate (v ∷ us) ≡ false → AreWell (v ∷ us)) → AreWell (u ∷ v ∷ us)
unfolding utf16_chars
well_at u v us true true ea eb lt h rest other =
    let e : utf16_chars (u ∷ v ∷ us) ≡ Some (surrogate_pair_char u v) ∷ utf16_chars us = rw (ea, eb) refl in
    well_pair u v us (grind (arith, nat_tests)) (grind (arith, nat_tests)) (grind (arith, nat_tests)) (grind (arith, nat_tests)) e h rest
well_at u v us true false ea eb lt h rest other = well_lone u (v ∷ us) lt (rw (ea, eb) refl) h other
well_at u v us false b ea eb lt h rest other = well_lone u (v ∷ us) lt (rw ea refl) h other

well : (units : List ℕ) → AllByRecursion (λ u. u < 2 ^ 16) units → has_unpaired_surrogate units ≡ false → AreWell units
unfolding utf16_chars
well [] small h = record { scalars_are = refl; again = refl }
well (u ∷ []) small h = well_lone u [] small.0 refl h (λ k. record { scalars_are = refl; again = refl })
well (u ∷ v ∷ us) small h = well_at u v us (is_high_surrogate u) (is_low_surrogate v) refl refl small.0 h (well us small.1.1) (well (v ∷ us) small.1)

pub units_small : (x : List ℕ) → AreBytes x → AllByRecursion (λ u. u < 2 ^ 16) (units_of x)
units_small [] h = tt
units_small (a ∷ []) h = tt
units_small (a ∷ b ∷ x) h = (omega (arith, h.0, h.1.0), units_small x h.1.1)

pub bytes_again : (x : List ℕ) → AreBytes x → length x % 2 ≡ 0 → unit_bytes (units_of x) ≡ x
bytes_again [] h even = refl
bytes_again (a ∷ []) h even = absurd (omega (arith, even))
bytes_again (a ∷ b ∷ x) h even =
    let low : (a + 256 * b) % 256 ≡ a = omega (arith, h.0) in
    let high : (a + 256 * b) / 256 % 256 ≡ b = omega (arith, h.0, h.1.0) in
    let rest = bytes_again x h.1.1 (omega (arith, even)) in
    λ i. low i ∷ high i ∷ rest i

-- the UTF-8 of a text whose units are well-formed has its bytes
pub text_again : (x : List ℕ) → AreBytes x → length x % 2 ≡ 0 → has_unpaired_surrogate (units_of x) ≡ false → utf16_of (utf8_of (units_of x)) ≡ x
text_again x h even paired =
    let w = well (units_of x) (units_small x h) paired in
    ap (λ cs. unit_bytes (flat_map encode_utf16 cs)) (chars-encodes (utf16_lossy_chars (units_of x)) w.scalars_are) ∙ (ap unit_bytes w.again ∙ bytes_again x h even)
