-- What the decoder makes of units is what they spell.
use Rattle.std.proofs.Common.{◌≡◌, ℕ, ◌<◌, ◌≤◌, List, [], ◌∷◌, ◌++◌, Bool, true, false, Option, None, Some, refl, sym, ap, ◌∙◌, arith, true≢false}
use Rattle.std.specs.Prelude.{nat_le, nat_lt, not, is_some, map, codes}
use Rattle.std.specs.Option.{unwrap_or}
use Rattle.std.proofs.lemmas.Bool.Decides.{nat_tests}
use Rattle.std.specs.Char.{encode_utf8}
use Rattle.std.specs.Char.Utf16.{has_unpaired_surrogate, utf16_chars, lone_unit_char, surrogate_pair_char, is_high_surrogate, is_low_surrogate}
use Rattle.std.specs.Str.{encode_utf8_all}
use Rattle.std.specs.List.{list_any}
use Rattle.json.specs.Print.{escape}
use Rattle.carrier_model.specs.Bytes.{units_of}
use Rattle.serde_json.specs.Data.{object, member, no_members}
use Rattle.serde_json.specs.Written.{compact_text}
use Rattle.json_model.specs.Properties.{hex_json}
use Rattle.json_model.specs.Texts.{utf8_of, text_json}
use Rattle.json_writer.proofs.Lists.{escape-append}
use Rattle.json_writer.specs.Units.{character, units_text, all_fit}

-- ---- surrogates by themselves

lone_by : (u : ℕ) (a b : Bool) → nat_le 0xD800 u ≡ a → nat_lt u 0xE000 ≡ b → is_high_surrogate u ≡ false → is_low_surrogate u ≡ false → lone_unit_char u ≡ Some u
lone_by u false b ea eb h l = rw ea refl
lone_by u true false ea eb h l = rw (ea, eb) refl
lone_by u true true ea eb h l =
    let from : 0xD800 ≤ u = grind (arith, nat_tests) in
    let below : u < 0xE000 = grind (arith, nat_tests) in
    absurd (grind (arith, nat_tests))

no_surrogate : (u : ℕ) → is_high_surrogate u ≡ false → is_low_surrogate u ≡ false → lone_unit_char u ≡ Some u
no_surrogate u h l = lone_by u (nat_le 0xD800 u) (nat_lt u 0xE000) refl refl h l

high_alone : (u : ℕ) → is_high_surrogate u ≡ true → lone_unit_char u ≡ None
high_alone u h =
    let a : nat_le 0xD800 u ≡ true = grind (arith, nat_tests) in
    let b : nat_lt u 0xE000 ≡ true = grind (arith, nat_tests) in
    rw (a, b) refl

low_alone : (u : ℕ) → is_low_surrogate u ≡ true → lone_unit_char u ≡ None
low_alone u h =
    let a : nat_le 0xD800 u ≡ true = grind (arith, nat_tests) in
    let b : nat_lt u 0xE000 ≡ true = grind (arith, nat_tests) in
    rw (a, b) refl

high_no_low : (u : ℕ) → is_high_surrogate u ≡ true → is_low_surrogate u ≡ false
high_no_low u h = let a : nat_le 0xDC00 u ≡ false = grind (arith, nat_tests) in rw a refl

pair_character : (u v : ℕ) → is_high_surrogate u ≡ true → is_low_surrogate v ≡ true → character (surrogate_pair_char u v) ≡ Some (surrogate_pair_char u v)
pair_character u v h l =
    let p = surrogate_pair_char u v in
    let c : u < 0xDC00 = grind (arith, nat_tests) in
    let d : v < 0xE000 = grind (arith, nat_tests) in
    let low : nat_lt p 55296 ≡ false = grind (arith, nat_tests) in
    let from : nat_le 57344 p ≡ true = grind (arith, nat_tests) in
    let below : nat_lt p 1114112 ≡ true = grind (arith, nat_tests) in
    rw (low, from, below) refl

-- ---- characters

chars_lone : (u : ℕ) (us : List ℕ) → is_high_surrogate u ≡ false → utf16_chars (u ∷ us) ≡ lone_unit_char u ∷ utf16_chars us
unfolding utf16_chars
chars_lone u [] h = refl
chars_lone u (v ∷ us) h = rw h refl

chars_pair : (u v : ℕ) (us : List ℕ) → is_high_surrogate u ≡ true → is_low_surrogate v ≡ true → utf16_chars (u ∷ v ∷ us) ≡ Some (surrogate_pair_char u v) ∷ utf16_chars us
unfolding utf16_chars
chars_pair u v us h l = rw (h, l) refl

chars_apart : (u v : ℕ) (us : List ℕ) → is_high_surrogate u ≡ true → is_low_surrogate v ≡ false → utf16_chars (u ∷ v ∷ us) ≡ lone_unit_char u ∷ utf16_chars (v ∷ us)
unfolding utf16_chars
chars_apart u v us h l = rw (h, l) refl

chars_none : utf16_chars [] ≡ []
unfolding utf16_chars
chars_none = refl

chars_last : (u : ℕ) → utf16_chars (u ∷ []) ≡ lone_unit_char u ∷ []
unfolding utf16_chars
chars_last u = refl

-- ---- what they say of units and of their text

abbrev any_missing : List (Option ℕ) → Bool
any_missing = list_any (λ o. not (is_some o))

abbrev text_of : List (Option ℕ) → List ℕ
text_of cs = escape (encode_utf8_all (map (λ o. unwrap_or o 0xFFFD) cs))

-- The units behind the first one of a pair, or all of them.
abbrev behind : Option ℕ → List ℕ → List ℕ
behind None us = us
behind (Some high) us = high ∷ us

abbrev IsFirst : Option ℕ → Type 0
IsFirst None = Unit {0}
IsFirst (Some high) = is_high_surrogate high ≡ true

record Spells (high : Option ℕ) (us : List ℕ) : Type 0 where
  fit : all_fit high us ≡ not (any_missing (utf16_chars (behind high us)))
  text : all_fit high us ≡ true → units_text high us ≡ text_of (utf16_chars (behind high us))

false_true : {A : Type 0} → false ≡ true → A
false_true e = absurd (true≢false (sym e))

-- a character, and what is behind it
one_character : (c : ℕ) (cs : List (Option ℕ)) → text_of (Some c ∷ cs) ≡ escape (encode_utf8 c) ++ text_of cs
one_character c cs = escape-append (encode_utf8 c) (encode_utf8_all (map (λ o. unwrap_or o 0xFFFD) cs))

spells_at : (u : ℕ) (us : List ℕ) (a b : Bool) → is_high_surrogate u ≡ a → is_low_surrogate u ≡ b → Spells None us → (is_high_surrogate u ≡ true → Spells (Some u) us) → Spells None (u ∷ us)
spells_at u us true b ea eb rest pair =
    let p = pair ea in
    let l = high_no_low u ea in
    record {
      fit = rw (l, ea) p.fit;
      text = λ h. rw (high_alone u ea, ea) (p.text (rw (l, ea) at h));
    }
spells_at u us false true ea eb rest pair =
    let cs = chars_lone u us ea ∙ ap (λ o. o ∷ utf16_chars us) (low_alone u eb) in
    record {
      fit = rw (eb, cs) refl;
      text = λ h. false_true (rw eb at h);
    }
spells_at u us false false ea eb rest pair =
    let lone = no_surrogate u ea eb in
    let cs = chars_lone u us ea ∙ ap (λ o. o ∷ utf16_chars us) lone in
    record {
      fit = rw (eb, ea, cs) rest.fit;
      text = λ h. rw (lone, ea, cs) (ap (λ (z : List ℕ). escape (encode_utf8 u) ++ z) (rest.text (rw (eb, ea) at h)) ∙ sym (one_character u (utf16_chars us)));
    }

spells_behind : (u v : ℕ) (us : List ℕ) (b : Bool) → is_high_surrogate u ≡ true → is_low_surrogate v ≡ b → Spells None us → Spells (Some u) (v ∷ us)
spells_behind u v us true eu eb rest =
    let cs = chars_pair u v us eu eb in
    let c = surrogate_pair_char u v in
    record {
      fit = rw (eb, cs) rest.fit;
      text = λ h. rw (eb, pair_character u v eu eb, cs) (ap (λ (z : List ℕ). escape (encode_utf8 c) ++ z) (rest.text (rw eb at h)) ∙ sym (one_character c (utf16_chars us)));
    }
spells_behind u v us false eu eb rest =
    let cs = chars_apart u v us eu eb ∙ ap (λ o. o ∷ utf16_chars (v ∷ us)) (high_alone u eu) in
    record {
      fit = rw (eb, cs) refl;
      text = λ h. false_true (rw eb at h);
    }

spells : (high : Option ℕ) (us : List ℕ) → IsFirst high → Spells high us
spells None [] first = record { fit = rw chars_none refl; text = λ h. rw chars_none refl }
spells (Some u) [] first =
    let cs = chars_last u ∙ ap (λ o. o ∷ []) (high_alone u first) in
    record { fit = rw cs refl; text = λ h. false_true h }
spells None (u ∷ us) first = spells_at u us (is_high_surrogate u) (is_low_surrogate u) refl refl (spells None us tt) (λ h. spells (Some u) us h)
spells (Some u) (v ∷ us) first = spells_behind u v us (is_low_surrogate v) first refl (spells None us tt)

-- no unit stands where it may not where no surrogate is without its partner
pub well_formed : (us : List ℕ) → all_fit None us ≡ not (has_unpaired_surrogate us)
well_formed us = (spells None us tt).fit

-- and then the characters are those of the units
pub well_spelled : (us : List ℕ) → all_fit None us ≡ true → units_text None us ≡ escape (utf8_of us)
well_spelled us h = (spells None us tt).text h

-- ---- the text of units as JSON

not_true : (b : Bool) → true ≡ not b → b ≡ false
not_true true h = absurd (true≢false h)
not_true false h = refl

not_false : (b : Bool) → false ≡ not b → b ≡ true
not_false true h = refl
not_false false h = absurd (true≢false (sym h))

pub string_of_units : (bytes : List ℕ) → all_fit None (units_of bytes) ≡ true → 34 ∷ (units_text None (units_of bytes) ++ 34 ∷ []) ≡ compact_text (text_json bytes)
string_of_units bytes h =
    let paired : has_unpaired_surrogate (units_of bytes) ≡ false = not_true (has_unpaired_surrogate (units_of bytes)) (sym h ∙ well_formed (units_of bytes)) in
    rw paired (ap (λ (z : List ℕ). 34 ∷ (z ++ 34 ∷ [])) (well_spelled (units_of bytes) h))

pub object_of_units : (bytes : List ℕ) → all_fit None (units_of bytes) ≡ false → compact_text (object (member (codes "units") (hex_json bytes) no_members)) ≡ compact_text (text_json bytes)
object_of_units bytes h =
    let paired : has_unpaired_surrogate (units_of bytes) ≡ true = not_false (has_unpaired_surrogate (units_of bytes)) (sym h ∙ well_formed (units_of bytes)) in
    rw paired refl
