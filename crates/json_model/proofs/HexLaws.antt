-- Digits of bytes, and bytes of digits.
use Rattle.std.proofs.Common.{◌≡◌, ℕ, ◌+◌, ◌*◌, ◌/◌, ◌%◌, List, [], ◌∷◌, length, Bool, true, false, refl, ap, sym, ◌∙◌, arith, true≢false}
use Rattle.std.specs.Prelude.{◌&&◌}
use Rattle.std.specs.List.{list_all}
use Rattle.carrier_model.specs.HexDigits.{is_digit, digit_of, bytes_in}
use Rattle.carrier_model.specs.KeyTexts.{hex_digit, lower}
use Rattle.carrier_model.proofs.HexDigits.{reads_digit, prints_digit}
use Rattle.json_model.specs.ByteTrees.{AreBytes}
use Rattle.json_model.specs.Digits.{hex}

pub and_true : (a b : Bool) → (a && b) ≡ true → (a ≡ true) × (b ≡ true)
and_true true b h = (refl, h)
and_true false b h = absurd (true≢false (sym h))

pub and_both : (a b : Bool) → a ≡ true → b ≡ true → (a && b) ≡ true
and_both a b h k = rw (h, k) refl

pub record HexReads (x : List ℕ) : Type 0 where
  pub digits : list_all (is_digit lower) (hex x) ≡ true
  pub each : length (hex x) ≡ 2 * length x
  pub again : bytes_in (hex x) ≡ x

pub hex_reads : (x : List ℕ) → AreBytes x → HexReads x
hex_reads [] h = record { digits = refl; each = refl; again = refl }
hex_reads (b ∷ x) h =
    let small = h.0 in
    let high = reads_digit lower (b / 16 % 16) (omega arith) (omega arith) in
    let low = reads_digit lower (b % 16) (omega arith) (omega arith) in
    let more = hex_reads x h.1 in
    let byte : 16 * (b / 16 % 16) + b % 16 ≡ b = omega (arith, small) in
    record {
      digits = rw (high.digit, low.digit) more.digits;
      each = omega (arith, more.each);
      again = rw (high.value, low.value, more.again) (ap (λ a. a ∷ x) byte);
    }

pub record HexPrints (text : List ℕ) : Type 0 where
  pub again : hex (bytes_in text) ≡ text
  pub are_bytes : AreBytes (bytes_in text)
  pub each : 2 * length (bytes_in text) ≡ length text

pub hex_prints : (text : List ℕ) → list_all (is_digit lower) text ≡ true → length text % 2 ≡ 0 → HexPrints text
hex_prints [] h even = record { again = refl; are_bytes = tt; each = refl }
hex_prints (a ∷ []) h even = absurd (omega (arith, even))
hex_prints (a ∷ b ∷ text) h even =
    let first = and_true (is_digit lower a) (is_digit lower b && list_all (is_digit lower) text) h in
    let next = and_true (is_digit lower b) (list_all (is_digit lower) text) first.1 in
    let high = prints_digit lower a (omega arith) first.0 in
    let low = prints_digit lower b (omega arith) next.0 in
    let more = hex_prints text next.1 (omega (arith, even)) in
    let p = digit_of lower a in
    let q = digit_of lower b in
    let x : (16 * p + q) / 16 % 16 ≡ p = omega (arith, high.small, low.small) in
    let y : (16 * p + q) % 16 ≡ q = omega (arith, high.small, low.small) in
    record {
      again = (λ i. hex_digit lower (x i) ∷ hex_digit lower (y i) ∷ more.again i) ∙ (λ i. high.again i ∷ low.again i ∷ text);
      are_bytes = (omega (arith, high.small, low.small), more.are_bytes);
      each = omega (arith, more.each);
    }
