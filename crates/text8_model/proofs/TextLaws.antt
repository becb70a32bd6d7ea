-- The units of a text, and the first byte that begins no sequence.
use Rattle.std.proofs.Common.{◌≡◌, ◌∙◌, refl, sym, ap, subst, ℕ, ◌≤◌, ◌<◌, Bool, true, false, List, [], ◌∷◌, ◌++◌, length, take, drop, arith, length-append}
use Rattle.std.proofs.lemmas.Bool.Decides.{nat_tests}
use Rattle.std.specs.Prelude.{Option, Some, None, if◌then◌else◌, is_some, not}
use Rattle.std.specs.Char.{len_utf8}
use Rattle.std.specs.Char.Escape.{encode_utf16}
use Rattle.std.specs.List.{AllByRecursion, flat_map}
use Rattle.std.specs.Str.{chars, is_utf8}
use Rattle.std.specs.Str.Lossy.{utf8_valid_len}
use Rattle.std.proofs.lemmas.Str.{length-encode}
use Rattle.text8_model.specs.Pages.{Page, windows_1252, latin_1, us_ascii, utf_8, windows_unit, latin_unit, ascii_unit, IsByte, IsSequence}
use Rattle.text8_model.specs.Texts.{TextOf, IsFirstBad, has_no_unit, bad_by, bad_place, units_in}
use Rattle.text8_model.proofs.ByteTexts.{means_by, found_from, place_found}
use Rattle.text8_model.proofs.Utf8Texts.{means_utf8, found_utf8, bad_utf8}

-- what a text means is its units, and no byte is bad
pub text_means : (page : Page) (x u : List ℕ) → TextOf page x u → (bad_place page x ≡ None) × (u ≡ units_in page x)
text_means windows_1252 x u t = means_by windows_unit x u t
text_means latin_1 x u t = means_by latin_unit x u t
text_means us_ascii x u t = means_by ascii_unit x u t
text_means utf_8 x u t = let m = means_utf8 x u t in (rw (m.0) refl, m.1)

tested : (b : Bool) (n : ℕ) → (if b then None else Some n) ≡ None → b ≡ true
tested true n e = refl
tested false n e = cc

pub text_found : (page : Page) (x : List ℕ) → bad_place page x ≡ None → TextOf page x (units_in page x)
text_found windows_1252 x e = found_from windows_unit 0 x e
text_found latin_1 x e = found_from latin_unit 0 x e
text_found us_ascii x e = found_from ascii_unit 0 x e
text_found utf_8 x e = found_utf8 x (tested (is_utf8 x) (utf8_valid_len x) e)

bad_of_bytes : (f : ℕ → Option ℕ) (x : List ℕ) (at : ℕ) → bad_by f x ≡ Some at → (at < length x) × (bad_by f (take at x) ≡ None) × ((s u more : List ℕ) → IsByte f s u → drop at x ≡ s ++ more → ⊥)
bad_of_bytes f x at e =
    let found = place_found f at x e in (
      found.there,
      found.before 0,
      λ s u more (byte, unit, is, d, g) split.
          let here : has_no_unit f byte ≡ true = found.here byte more (split ∙ ap (λ l. l ++ more) d) in
          let wrong : false ≡ true = sym (ap (λ o. not (is_some o)) is) ∙ here in let never : ⊥ = cc in never,
    )

-- a bad byte is the first
pub first_bad : (page : Page) (x : List ℕ) (at : ℕ) → bad_place page x ≡ Some at → IsFirstBad page x at
first_bad windows_1252 x at e = let b = bad_of_bytes windows_unit x at e in record { there = b.0; front = (units_in windows_1252 (take at x), text_found windows_1252 (take at x) b.1); none = b.2 }
first_bad latin_1 x at e = let b = bad_of_bytes latin_unit x at e in record { there = b.0; front = (units_in latin_1 (take at x), text_found latin_1 (take at x) b.1); none = b.2 }
first_bad us_ascii x at e = let b = bad_of_bytes ascii_unit x at e in record { there = b.0; front = (units_in us_ascii (take at x), text_found us_ascii (take at x) b.1); none = b.2 }
first_bad utf_8 x at e = by_test (is_utf8 x) refl e
  where
    by_test : (b : Bool) → is_utf8 x ≡ b → (if b then None else Some (utf8_valid_len x)) ≡ Some at → IsFirstBad utf_8 x at
    by_test true t e = absurd (let wrong : ⊥ = cc in wrong)
    by_test false t e =
        let b = bad_utf8 x t in
        let is : utf8_valid_len x ≡ at = cc in
        subst (IsFirstBad utf_8 x) is (record { there = b.there; front = (flat_map encode_utf16 (chars (take (utf8_valid_len x) x)), found_utf8 (take (utf8_valid_len x) x) b.front); none = λ s u more (c, ok, d, g) split. b.none c more ok (split ∙ ap (λ l. l ++ more) d) })

-- ---- the units are at most as many as the bytes

character_short : (c : ℕ) → length (encode_utf16 c) ≤ len_utf8 c
character_short c = grind (arith, nat_tests)

sequence_short : (page : Page) (s u : List ℕ) → IsSequence page s u → length u ≤ length s
sequence_short windows_1252 s u (byte, unit, e, x, y) = rw (x, y) (omega arith)
sequence_short latin_1 s u (byte, unit, e, x, y) = rw (x, y) (omega arith)
sequence_short us_ascii s u (byte, unit, e, x, y) = rw (x, y) (omega arith)
sequence_short utf_8 s u (c, ok, x, y) = omega (arith, ap length x, ap length y, length-encode c, character_short c)

pairs_short : (page : Page) (pairs : List (List ℕ × List ℕ)) → AllByRecursion (λ s. IsSequence page s.0 s.1) pairs → length (flat_map (λ s. s.1) pairs) ≤ length (flat_map (λ s. s.0) pairs)
pairs_short page [] all = omega arith
pairs_short page (s ∷ more) all =
    let one = sequence_short page s.0 s.1 all.0 in
    let rest = pairs_short page more all.1 in
    omega (arith, one, rest, length-append s.0 (flat_map (λ p. p.0) more), length-append s.1 (flat_map (λ p. p.1) more))

pub text_short : (page : Page) (x u : List ℕ) → TextOf page x u → length u ≤ length x
text_short page x u (pairs, all, d, e) = let s = pairs_short page pairs all in omega (arith, s, ap length d, ap length e)
