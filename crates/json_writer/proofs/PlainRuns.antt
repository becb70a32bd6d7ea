-- Units that stand for themselves, one after another.
use Rattle.std.proofs.Common.{◌≡◌, ℕ, zero, suc, ◌+◌, ◌*◌, ◌/◌, ◌<◌, List, [], ◌∷◌, ◌++◌, length, get_or, take, false, Some, refl, sym, ap, ◌∙◌, append_assoc, arith}
use Rattle.std.specs.Prelude.{nat_le}
use Rattle.std.specs.Char.{encode_utf8}
use Rattle.std.specs.Char.Utf16.{is_high_surrogate, lone_unit_char}
use Rattle.std.proofs.lemmas.Bool.Decides.{nat_tests}
use Rattle.std.proofs.lemmas.Str.{encode_ascii}
use Rattle.json.specs.Print.{escape}
use Rattle.json.proofs.Printed.Strings.{escape_byte_plain}
use Rattle.json_writer.specs.Decoded.{text_left, fits_with}
use Rattle.json_writer.specs.Plain.{AreLone, ArePlain, IsEmpty, IsLone, IsPlain, lows}
use Rattle.json_writer.specs.declared.utf16.Utf16.{Utf16}

-- ---- one unit

escaped : (a : ℕ) → IsPlain a → escape (encode_utf8 a) ≡ a ∷ []
escaped a p =
    let below : a < 128 = p.below in
    rw (encode_ascii a below) (ap (λ (z : List ℕ). z ++ []) (escape_byte_plain a p.no_quote p.no_backslash p.from))

lone : (a : ℕ) → a < 128 → lone_unit_char a ≡ Some a
lone a below = let e : nat_le 0xD800 a ≡ false = grind (arith, nat_tests) in rw e refl

no_high : (a : ℕ) → a < 128 → is_high_surrogate a ≡ false
no_high a below = let e : nat_le 0xD800 a ≡ false = grind (arith, nat_tests) in rw e refl

one_text : (u : Utf16) (a b : ℕ) (more : List ℕ) → IsEmpty u → IsPlain (a + 256 * b) → text_left u (a ∷ b ∷ more) ≡ a ∷ text_left u more
one_text u a b more e p =
    let under : a + 256 * b < 128 = p.below in
    let same : a + 256 * b ≡ a = omega (arith, under) in
    let below : a < 128 = omega (arith, under) in
    let q : IsPlain a = rw same at p in
    rw (e.low, e.high, same, lone a below, no_high a below, escaped a q) refl

pub unit_text : (u : Utf16) (low high unit : ℕ) (more : List ℕ) → IsEmpty u → IsPlain unit → unit ≡ low + 256 * high → text_left u (low ∷ high ∷ more) ≡ unit ∷ text_left u more
unit_text u low high unit more e p is =
    let under : unit < 128 = p.below in
    let same : low ≡ unit = omega (arith, under, is) in
    one_text u low high more e (rw is at p) ∙ ap (λ n. n ∷ text_left u more) same

one_fits : (u : Utf16) (a b : ℕ) (more : List ℕ) → IsEmpty u → IsLone (a + 256 * b) → fits_with u (a ∷ b ∷ more) ≡ fits_with u more
one_fits u a b more e p = rw (e.low, e.high, p.low, p.high) refl

-- ---- runs

pub plain_start : ArePlain []
plain_start u e more = refl

pub lone_start : AreLone []
lone_start u e more = refl

-- one unit more
pub plain_more : (xs all : List ℕ) (a b : ℕ) → all ≡ xs ++ (a ∷ b ∷ []) → lows all ≡ lows xs ++ a ∷ [] → ArePlain xs → IsPlain (a + 256 * b) → ArePlain all
plain_more xs all a b is low p q u e more =
    ap (λ (z : List ℕ). text_left u (z ++ more)) is ∙ ap (text_left u) (append_assoc xs (a ∷ b ∷ []) more) ∙ p u e (a ∷ b ∷ more)
    ∙ ap (λ (z : List ℕ). lows xs ++ z) (one_text u a b more e q) ∙ sym (append_assoc (lows xs) (a ∷ []) (text_left u more)) ∙ ap (λ (z : List ℕ). z ++ text_left u more) (sym low)

pub lone_more : (xs all : List ℕ) (a b : ℕ) → all ≡ xs ++ (a ∷ b ∷ []) → AreLone xs → IsLone (a + 256 * b) → AreLone all
lone_more xs all a b is p q u e more =
    ap (λ (z : List ℕ). fits_with u (z ++ more)) is ∙ ap (fits_with u) (append_assoc xs (a ∷ b ∷ []) more) ∙ p u e (a ∷ b ∷ more) ∙ one_fits u a b more e q

-- ---- low bytes

pub lows_two : (k : ℕ) (xs : List ℕ) → 2 * k + 1 < length xs → lows (take (2 * (k + 1)) xs) ≡ lows (take (2 * k) xs) ++ get_or xs (2 * k) 0 ∷ []
lows_two zero [] lt = absurd (omega (arith, lt))
lows_two zero (a ∷ []) lt = absurd (omega (arith, lt))
lows_two zero (a ∷ b ∷ more) lt = refl
lows_two (suc k) [] lt = absurd (omega (arith, lt))
lows_two (suc k) (a ∷ []) lt = absurd (omega (arith, lt))
lows_two (suc k) (a ∷ b ∷ more) lt =
    let longer : 2 * (suc k + 1) ≡ suc (suc (2 * (k + 1))) = omega arith in
    let long : 2 * suc k ≡ suc (suc (2 * k)) = omega arith in
    rw (longer, long) (ap (λ (z : List ℕ). a ∷ z) (lows_two k more (omega (arith, lt))))

pub lows_all : (n : ℕ) (xs : List ℕ) → n ≡ length xs / 2 → lows (take (2 * n) xs) ≡ lows xs
lows_all zero [] e = refl
lows_all zero (a ∷ []) e = refl
lows_all zero (a ∷ b ∷ more) e = absurd (omega (arith, e))
lows_all (suc n) [] e = absurd (omega (arith, e))
lows_all (suc n) (a ∷ []) e = absurd (omega (arith, e))
lows_all (suc n) (a ∷ b ∷ more) e =
    let long : 2 * suc n ≡ suc (suc (2 * n)) = omega arith in
    rw long (ap (λ (z : List ℕ). a ∷ z) (lows_all n more (omega (arith, e))))
