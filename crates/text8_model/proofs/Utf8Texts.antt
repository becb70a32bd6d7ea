-- Texts in UTF-8.
use Rattle.std.proofs.Common.{◌≡◌, ◌∙◌, inl, inr, refl, sym, ap, subst, ℕ, zero, suc, ◌+◌, ◌≤◌, ◌<◌, Bool, true, false, List, [], ◌∷◌, ◌++◌, length, take, drop, arith, length-append, take_all, take-append-drop, length-take-le}
use Rattle.std.proofs.Math.Seq.{take-append-add, take-append_seam}
use Rattle.std.specs.Prelude.{◌&&◌}
use Rattle.std.specs.Char.{IsScalar, encode_utf8}
use Rattle.std.specs.Char.Escape.{encode_utf16}
use Rattle.std.specs.List.{AllByRecursion, flat_map}
use Rattle.std.specs.Str.{IsUtf8, chars, is_utf8}
use Rattle.std.specs.Str.Lossy.{utf8_valid_len, valid_len_up_to}
use Rattle.std.proofs.lemmas.Str.{chars-encodes, IsUtf8-from_is_utf8, is_utf8-from_IsUtf8, IsUtf8-append, IsUtf8-encode, length-encode, len_utf8_bounds}
use Rattle.std.proofs.lemmas.Bool.{cases_lt}
use Rattle.text8_model.specs.Pages.{IsCharacter}
use lib.Utf8.{scalar, scalars, encodes}

abbrev pub CharactersOf : List ℕ → List ℕ → Type 0
CharactersOf x u = (pairs : List (List ℕ × List ℕ)) × AllByRecursion (λ s. IsCharacter s.0 s.1) pairs × (x ≡ flat_map (λ s. s.0) pairs) × (u ≡ flat_map (λ s. s.1) pairs)

-- the characters of such sequences
abbrev pub Spelt : List (List ℕ × List ℕ) → Type 0
Spelt pairs = (cs : List ℕ) × (scalars cs ≡ true) × (encodes cs ≡ flat_map (λ s. s.0) pairs) × (flat_map encode_utf16 cs ≡ flat_map (λ s. s.1) pairs)

both_true : (a b : Bool) → a ≡ true → b ≡ true → (a && b) ≡ true
both_true a b d e = rw (d, e)

pub spelt : (pairs : List (List ℕ × List ℕ)) → AllByRecursion (λ s. IsCharacter s.0 s.1) pairs → Spelt pairs
spelt [] all = ([], refl, refl, refl)
spelt (s ∷ more) ((c, is, x, u), all) =
    let rest = spelt more all in
    (c ∷ rest.0, both_true (scalar c) (scalars rest.0) is rest.1, (λ i. sym x i ++ rest.2 i), (λ i. sym u i ++ rest.3 i))

pub means_utf8 : (x u : List ℕ) → CharactersOf x u → (is_utf8 x ≡ true) × (u ≡ flat_map encode_utf16 (chars x))
means_utf8 x u (pairs, all, e, d) =
    let s = spelt pairs all in
    let spells : encodes s.0 ≡ x = s.2 ∙ sym e in
    let read : chars x ≡ s.0 = ap chars (sym spells) ∙ chars-encodes s.0 s.1 in
    (is_utf8-from_IsUtf8 x (s.0, (s.1, spells)), d ∙ (sym s.3 ∙ ap (flat_map encode_utf16) (sym read)))

both_are : (a b : Bool) → (a && b) ≡ true → (a ≡ true) × (b ≡ true)
both_are true b e = (refl, e)
both_are false b e = absurd (let wrong : ⊥ = cc in wrong)

pub pairs_of : (cs : List ℕ) → scalars cs ≡ true → CharactersOf (encodes cs) (flat_map encode_utf16 cs)
pairs_of [] ok = ([], tt, refl, refl)
pairs_of (c ∷ cs) ok =
    let each = both_are (scalar c) (scalars cs) ok in
    let rest = pairs_of cs each.1 in
    ((encode_utf8 c, encode_utf16 c) ∷ rest.0, ((c, each.0, refl, refl), rest.1), ap (λ l. encode_utf8 c ++ l) rest.2, ap (λ l. encode_utf16 c ++ l) rest.3)

pub found_utf8 : (x : List ℕ) → is_utf8 x ≡ true → CharactersOf x (flat_map encode_utf16 (chars x))
found_utf8 x ok =
    let u = IsUtf8-from_is_utf8 x ok in
    let read : chars x ≡ u.0 = ap chars (sym u.1.1) ∙ chars-encodes u.0 u.1.0 in
    let pairs = pairs_of u.0 u.1.0 in
    (pairs.0, pairs.1, sym u.1.1 ∙ pairs.2, ap (flat_map encode_utf16) read ∙ pairs.3)

-- ---- the first byte that begins no character

pub record IsLongest (x : List ℕ) (m n : ℕ) : Type 0 where
  pub within : n ≤ m
  pub front : is_utf8 (take n x) ≡ true
  pub longest : (k : ℕ) → n < k → k ≤ m → is_utf8 (take k x) ≡ false

empty_utf8 : is_utf8 [] ≡ true
empty_utf8 = is_utf8-from_IsUtf8 [] ([], (refl, refl))

one_longer : (x : List ℕ) (m : ℕ) (b : Bool) → is_utf8 (take (suc m) x) ≡ b → IsLongest x m (valid_len_up_to x m) → IsLongest x (suc m) (valid_len_up_to x (suc m))
one_longer x m true t rest = rw t (record { within = omega arith; front = t; longest = λ k lt le. absurd (omega (arith, lt, le)) })
one_longer x m false t rest = rw t (record {
  within = omega (arith, rest.within);
  front = rest.front;
  longest = λ k lt le. elim (cases_lt k (suc m)) [
    | inl under ↦ rest.longest k lt (omega (arith, under))
    | inr from ↦ (let e : k ≡ suc m = omega (arith, le, from) in ap (λ n. is_utf8 (take n x)) e ∙ t)
  ];
})

longest_to : (x : List ℕ) (m : ℕ) → IsLongest x m (valid_len_up_to x m)
longest_to x zero = record { within = omega arith; front = empty_utf8; longest = λ k lt le. absurd (omega (arith, lt, le)) }
longest_to x (suc m) = one_longer x m (is_utf8 (take (suc m) x)) refl (longest_to x m)

pub longest_is : (x : List ℕ) → IsLongest x (length x) (utf8_valid_len x)
unfolding utf8_valid_len
longest_is x = longest_to x (length x)

false_or : (b : Bool) → b ≡ true → b ≡ false → ⊥
false_or b d e = let wrong : true ≡ false = sym d ∙ e in cc

taken : (a b more x : List ℕ) (n : ℕ) → a ++ (b ++ more) ≡ x → length a ≡ n → take (n + length b) x ≡ a ++ b
taken a b more x n e long = (λ i. take (sym long i + length b) (sym e i)) ∙ (take-append-add a (b ++ more) (length b) ∙ ap (λ l. a ++ l) (take-append_seam b more))

-- where bytes aren't UTF-8, one of them stands behind the longest front that is, and begins no character
pub record IsBadUtf8 (x : List ℕ) (at : ℕ) : Type 0 where
  pub there : at < length x
  pub front : is_utf8 (take at x) ≡ true
  pub none : (c : ℕ) (more : List ℕ) → IsScalar c → drop at x ≡ encode_utf8 c ++ more → ⊥

pub bad_utf8 : (x : List ℕ) → is_utf8 x ≡ false → IsBadUtf8 x (utf8_valid_len x)
bad_utf8 x bad =
    let l = longest_is x in
    let n = utf8_valid_len x in
    record {
      there = elim (cases_lt n (length x)) [
        | inl under ↦ under
        | inr from ↦ (let e : take n x ≡ x = take_all n x from in absurd (false_or (is_utf8 x) (sym (ap is_utf8 e) ∙ l.front) bad))
      ];
      front = l.front;
      none = λ c more is e. longer c more is e n refl l;
    }
  where
    longer : (c : ℕ) (more : List ℕ) → IsScalar c → drop (utf8_valid_len x) x ≡ encode_utf8 c ++ more → (n : ℕ) → utf8_valid_len x ≡ n → IsLongest x (length x) n → ⊥
    longer c more is e n same l =
        let d : drop n x ≡ encode_utf8 c ++ more = subst (λ k. drop k x ≡ encode_utf8 c ++ more) same e in
        let size = length-encode c in
        let bounds = len_utf8_bounds c in
        let whole : take n x ++ (encode_utf8 c ++ more) ≡ x = sym (ap (λ l. take n x ++ l) d) ∙ take-append-drop n x in
        let long : length (take n x) ≡ n = length-take-le n x l.within in
        let k = n + length (encode_utf8 c) in
        let front : take k x ≡ take n x ++ encode_utf8 c = taken (take n x) (encode_utf8 c) more x n whole long in
        let good : is_utf8 (take k x) ≡ true = is_utf8-from_IsUtf8 (take k x) (subst IsUtf8 (sym front) (IsUtf8-append (take n x) (encode_utf8 c) (IsUtf8-from_is_utf8 (take n x) l.front) (IsUtf8-encode c is))) in
        false_or (is_utf8 (take k x)) good (l.longest k (omega (arith, size, bounds.0)) (omega (arith, ap length whole, length-append (take n x) (encode_utf8 c ++ more), length-append (encode_utf8 c) more, long)))
