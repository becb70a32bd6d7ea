-- Names of ASCII characters.
use Rattle.std.proofs.Common.{◌≡◌, ℕ, zero, suc, ◌<◌, ◌%◌, ◌/◌, List, [], ◌∷◌, ◌++◌, Bool, true, false, refl, sym, ap, ◌∙◌, arith}
use Rattle.std.specs.Prelude.{codes, nat_lt, ◌&&◌}
use Rattle.std.specs.Char.Escape.{encode_utf16}
use Rattle.std.specs.List.{flat_map, list_all}
use Rattle.std.specs.Str.{IsAscii}
use Rattle.std.proofs.lemmas.Bool.{ltb-true}
use Rattle.std.proofs.lemmas.Bool.Decides.{nat_tests}
use Rattle.std.proofs.lemmas.Str.{IsAscii-append}
use Rattle.carrier_model.specs.KeyTexts.{upper, hex_digit, hex_digits}
use Rattle.msg_model.specs.StreamNames.{value_name, numbered_name}

unit_ascii : (c : ℕ) → c < 128 → encode_utf16 c ≡ c ∷ []
unit_ascii c lt = grind (arith, nat_tests)

-- each character is of one unit
pub units_ascii : (bs : List ℕ) → IsAscii bs → bs ≡ flat_map encode_utf16 bs
units_ascii [] h = refl
units_ascii (b ∷ bs) h =
    ap (λ (z : List ℕ). b ∷ z) (units_ascii bs (λ i. h (suc i))) ∙ sym (ap (λ (z : List ℕ). z ++ flat_map encode_utf16 bs) (unit_ascii b (h 0)))

digit_ascii : (d : ℕ) → d < 16 → hex_digit upper d < 128
digit_ascii d lt = grind (arith, nat_tests)

one_ascii : (b : ℕ) → b < 128 → IsAscii (b ∷ [])
one_ascii b lt zero = lt
one_ascii b lt (suc i) = omega arith

digits_ascii : (count n : ℕ) → IsAscii (hex_digits upper count n)
digits_ascii zero n = λ i. omega arith
digits_ascii (suc count) n = IsAscii-append (hex_digits upper count (n / 16)) (hex_digit upper (n % 16) ∷ []) (digits_ascii count (n / 16)) (one_ascii (hex_digit upper (n % 16)) (digit_ascii (n % 16) (omega arith)))

both : (a b : Bool) → (a && b) ≡ true → (a ≡ true) × (b ≡ true)
both true b e = (refl, e)
both false b e = absurd cc

-- by a test
pub all_ascii : (bs : List ℕ) → list_all (λ b. nat_lt b 128) bs ≡ true → IsAscii bs
all_ascii [] e i = omega arith
all_ascii (b ∷ bs) e zero = ltb-true b 128 (both (nat_lt b 128) (list_all (λ b. nat_lt b 128) bs) e).0
all_ascii (b ∷ bs) e (suc i) = all_ascii bs (both (nat_lt b 128) (list_all (λ b. nat_lt b 128) bs) e).1 i

-- ---- names with numbers

pub numbered_ascii : (front : List ℕ) (n : ℕ) → list_all (λ b. nat_lt b 128) front ≡ true → IsAscii (numbered_name front n)
numbered_ascii front n e = IsAscii-append front (hex_digits upper 8 n) (all_ascii front e) (digits_ascii 8 n)

pub value_ascii : (tag : ℕ) → IsAscii (value_name tag)
value_ascii tag = numbered_ascii (codes "__substg1.0_") tag refl
