-- What stands for a byte of a string.
use Rattle.std.proofs.Common.{◌≡◌, sym, ap₂, ℕ, suc, ◌/◌, ◌%◌, ◌<◌, ◌≤◌, List, [], ◌∷◌, ◌++◌, length, get_or, true, false, refl, inl, inr, arith}
use Rattle.std.specs.Prelude.{Bool, nat_lt}
use Rattle.std.specs.Char.{digit_char, encode_utf8, is_ascii}
use Rattle.std.proofs.lemmas.Bool.Decides.{nat_tests}
use Rattle.std.proofs.lemmas.List.{append-nil}
use Rattle.std.proofs.lemmas.Bool.{cases_lt}
use Rattle.std.proofs.lemmas.Str.{encode_ascii, inside_one}
use Rattle.json.proofs.Printed.Strings.{escape_byte_plain}
use Rattle.carrier_model.specs.KeyTexts.{hex_digit, hex_digits, lower}
use Rattle.json.specs.Print.{escape_letter, escape_byte, escape}

pub letter_text : (byte letter : ℕ) → letter ≡ escape_letter byte → 0 < letter → 92 ∷ letter ∷ [] ≡ escape_byte byte
unfolding escape_byte
letter_text byte letter e some =
    let t : nat_lt 0 letter ≡ true = grind (arith, nat_tests) in
    let u : nat_lt 0 (escape_letter byte) ≡ true = rw (sym e) t in
    rw (u, e) refl

same_digit : (d : ℕ) → hex_digit lower d ≡ digit_char d
same_digit d = by (nat_lt d 10) refl
  where
    by : (few : Bool) → nat_lt d 10 ≡ few → hex_digit lower d ≡ digit_char d
    by true e = rw e refl
    by false e =
        let large : 10 ≤ d = grind (arith, nat_tests) in
        rw e (omega (arith, large))

pub control_text : (byte : ℕ) (digits : List ℕ) → byte < 32 → escape_letter byte ≡ 0 → digits ≡ hex_digits lower 2 byte → 92 ∷ 117 ∷ 48 ∷ 48 ∷ get_or digits 0 0 ∷ get_or digits 1 0 ∷ [] ≡ escape_byte byte
unfolding escape_byte
control_text byte digits small e is =
    let t : nat_lt byte 32 ≡ true = grind (arith, nat_tests) in
    let first : byte / 16 % 16 ≡ byte / 16 = omega (arith, small) in
    rw (e, t, is, same_digit (byte / 16 % 16), same_digit (byte % 16), first) refl

pub plain_text : (byte : ℕ) → 32 ≤ byte → escape_letter byte ≡ 0 → byte ∷ [] ≡ escape_byte byte
unfolding escape_byte
plain_text byte large e =
    let t : nat_lt byte 32 ≡ false = grind (arith, nat_tests) in
    rw (e, t) refl

-- a character that is one byte in UTF-8
pub ascii_text : (c : ℕ) → is_ascii c ≡ true → escape_byte c ≡ escape (encode_utf8 c)
ascii_text c small =
    let below : c < 128 = grind (arith, nat_tests) in
    rw (encode_ascii c below) (sym (append-nil (escape_byte c)))

high_text : (xs : List ℕ) → ((k : ℕ) → k < length xs → 128 ≤ get_or xs k 0) → xs ≡ escape xs
high_text [] h = refl
high_text (x ∷ xs) h =
    let high : 128 ≤ x = h 0 (omega arith) in
    sym (ap₂ (λ (a b : List ℕ). a ++ b) (escape_byte_plain x (λ e. omega arith) (λ e. omega arith) (omega arith)) (sym (high_text xs (λ k below. h (suc k) (omega arith)))))

-- a character whose bytes stand for themselves
pub wide_text : (c : ℕ) → is_ascii c ≡ false → encode_utf8 c ≡ escape (encode_utf8 c)
wide_text c wide =
    let big : 128 ≤ c = grind (arith, nat_tests) in
    high_text (encode_utf8 c) (λ k below. elim (cases_lt (get_or (encode_utf8 c) k 0) 128) [
      | inl low ↦ absurd (omega (arith, big, inside_one c [] (encode_utf8 c) k (sym (append-nil _)) below low))
      | inr h ↦ h
    ])
