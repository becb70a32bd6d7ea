-- The units of a text, one character after another.
use Rattle.std.proofs.Common.{◌≡◌, ℕ, ◌<◌, ◌≤◌, List, [], ◌∷◌, length, take, refl, sym, ◌∙◌, ap, arith, inl, inr}
use Rattle.std.specs.List.{flat_map}
use Rattle.std.specs.Char.Escape.{encode_utf16}
use Rattle.std.specs.String.{IsUtf16Of}
use Rattle.std.specs.Str.{chars, IsUtf8, encode_utf8_all}
use Rattle.std.specs.Char.{encode_utf8}
use Rattle.std.proofs.lemmas.Str.{encode_same, encodes-chars, length-encode, len_utf8_bounds}
use Rattle.std.proofs.lemmas.Bool.{cases_lt}
use Rattle.std.proofs.lemmas.List.{length-map, length-append}
use Rattle.carrier_model.specs.Files.{folded}
use Rattle.cfb_directory.specs.Wanted.{Keeps}
use Rattle.cfb_directory.specs.declared.wanted.Wanted.{Wanted}

pub keeps_long : (w : Wanted) (units : List ℕ) → Keeps w (folded units) → 32 < w.len → 32 < length units
keeps_long w units h long =
    elim (cases_lt 32 (length units)) [
      | inl more ↦ more
      | inr few ↦ absurd (no w.len (length units) few long ((h.whole (rw length-map few)).0 ∙ rw length-map refl))
    ]
  where
    no : (a b : ℕ) → b ≤ 32 → 32 < a → a ≡ b → ⊥
    no a b small big same = omega arith

pub keeps_whole : (w : Wanted) (units : List ℕ) → Keeps w (folded units) → w.len ≤ 32 → take w.len w.units ≡ folded units
keeps_whole w units h fits =
    elim (cases_lt 32 (length (folded units))) [
      | inl more ↦ absurd (omega (arith, h.longer more))
      | inr few ↦ (h.whole few).1
    ]

-- a text is of one list of characters
same_chars : (cs ds : List ℕ) → encode_utf8_all cs ≡ encode_utf8_all ds → cs ≡ ds
same_chars [] [] h = refl
same_chars [] (d ∷ ds) h = absurd (omega (arith, ap length h, length-append (encode_utf8 d) (encode_utf8_all ds), length-encode d, (len_utf8_bounds d).0))
same_chars (c ∷ cs) [] h = absurd (omega (arith, ap length h, length-append (encode_utf8 c) (encode_utf8_all cs), length-encode c, (len_utf8_bounds c).0))
same_chars (c ∷ cs) (d ∷ ds) h =
    let p = encode_same c d (encode_utf8_all cs) (encode_utf8_all ds) h in
    rw (p.0, same_chars cs ds p.1) refl

pub units_are : (text units : List ℕ) → IsUtf8 text → IsUtf16Of units text → units ≡ flat_map encode_utf16 (chars text)
units_are text units utf8 h = h.1 ∙ ap (flat_map encode_utf16) (same_chars h.0 (chars text) (sym h.2 ∙ sym (encodes-chars text utf8)))
