-- Digits stand in a string as they are.
use Rattle.std.proofs.Common.{◌≡◌, ◌∙◌, ap, sym, refl, ℕ, ◌+◌, ◌-◌, ◌/◌, ◌%◌, ◌<◌, ◌≤◌, List, [], ◌∷◌, ◌++◌, take, drop, append_assoc, arith}
use Rattle.std.specs.Prelude.{codes, nat_lt}
use Rattle.carrier_model.specs.KeyTexts.{hex_digit, hex_digits, lower}
use Rattle.json.specs.Print.{escape_byte, escape}
use Rattle.serde_json.specs.Data.{object, member, no_members}
use Rattle.serde_json.specs.Written.{compact_text}
use Rattle.json_model.specs.Digits.{hex}
use Rattle.json_model.specs.Properties.{hex_json}
use Rattle.std.specs.Prelude.{Bool, true, false}
use Rattle.std.proofs.lemmas.Bool.Decides.{nat_tests}
use Rattle.std.proofs.lemmas.List.{take-append-drop}
use Rattle.std.proofs.lemmas.List.Concat.{flat_map-append}
use Rattle.json.proofs.Printed.Strings.{escape_byte_plain}
use Rattle.json_writer.proofs.Lists.{escape-append}

digit_by : (d : ℕ) (b : Bool) → nat_lt d 10 ≡ b → escape_byte (hex_digit lower d) ≡ hex_digit lower d ∷ []
digit_by d true e =
    let lt : d < 10 = grind (arith, nat_tests) in
    rw e (escape_byte_plain (0x30 + d) (λ h. omega (arith, h, lt)) (λ h. omega (arith, h, lt)) (omega (arith, lt)))
digit_by d false e =
    let ge : 10 ≤ d = grind (arith, nat_tests) in
    rw e (escape_byte_plain (lower + d - 10) (λ h. omega (arith, h, ge)) (λ h. omega (arith, h, ge)) (omega (arith, ge)))

digit_plain : (d : ℕ) → escape_byte (hex_digit lower d) ≡ hex_digit lower d ∷ []
digit_plain d = digit_by d (nat_lt d 10) refl

two_plain : (n : ℕ) → escape (hex_digits lower 2 n) ≡ hex_digits lower 2 n
two_plain n = rw (digit_plain (n / 16 % 16), digit_plain (n % 16)) refl

pub escape_hex : (bytes : List ℕ) → escape (hex bytes) ≡ hex bytes
escape_hex [] = refl
escape_hex (b ∷ bytes) = escape-append (hex_digits lower 2 b) (hex bytes) ∙ (ap (λ (z : List ℕ). z ++ escape (hex bytes)) (two_plain b) ∙ ap (λ (z : List ℕ). hex_digits lower 2 b ++ z) (escape_hex bytes))

-- a string of digits
pub digits_string : (bytes : List ℕ) → 34 ∷ (hex bytes ++ 34 ∷ []) ≡ compact_text (hex_json bytes)
digits_string bytes = ap (λ (z : List ℕ). 34 ∷ (z ++ 34 ∷ [])) (sym (escape_hex bytes))

-- an object of one
pub object_of_digits : (bytes : List ℕ) → codes "{\"units\":\"" ++ (hex bytes ++ codes "\"}") ≡ compact_text (object (member (codes "units") (hex_json bytes) no_members))
unfolding escape_byte
object_of_digits bytes =
    let inside : hex bytes ++ codes "\"}" ≡ (escape (hex bytes) ++ 34 ∷ []) ++ 125 ∷ [] = sym (append_assoc (hex bytes) (34 ∷ []) (125 ∷ [])) ∙ ap (λ (z : List ℕ). (z ++ 34 ∷ []) ++ 125 ∷ []) (sym (escape_hex bytes)) in
    ap (λ (z : List ℕ). codes "{\"units\":\"" ++ z) inside

-- digits of two runs
pub hex-append : (xs ys : List ℕ) → hex (xs ++ ys) ≡ hex xs ++ hex ys
hex-append xs ys = flat_map-append (hex_digits lower 2) xs ys

pub hex_parts : (n : ℕ) (xs few after : List ℕ) → few ≡ take n xs → after ≡ drop n xs → hex xs ≡ hex few ++ hex after
hex_parts n xs few after e f = ap hex (sym (take-append-drop n xs)) ∙ hex-append (take n xs) (drop n xs) ∙ rw (e, f) refl

pub hex_three : (xs ys zs : List ℕ) → hex (xs ++ (ys ++ zs)) ≡ hex xs ++ (hex ys ++ hex zs)
hex_three xs ys zs = hex-append xs (ys ++ zs) ∙ ap (λ (l : List ℕ). hex xs ++ l) (hex-append ys zs)
