-- Texts in pieces: what stands behind a whole number of groups is the text of what stands behind their bytes.
use Rattle.std.proofs.Common.{◌≡◌, ◌⊎◌, ℕ, zero, suc, ◌%◌, ◌<◌, ◌==◌, get_or, true, not, List, [], ◌∷◌, ◌++◌, length, take, drop, Ok, Err, inl, inr, refl, sym, ap, ◌∙◌, length-append, arith}
use Rattle.std.proofs.lemmas.Bool.Decides.{nat_tests}
use Rattle.std.proofs.lemmas.Bool.{cases_lt}
use Rattle.std.proofs.lemmas.List.{append-nil, get_or_past}
use Rattle.std.proofs.lemmas.List.Sums.{AllPass-from_list_all}
use Rattle.std.specs.List.{list_all}
use Rattle.base64.specs.declared.decode.DecodeError.{DecodeError}
use Rattle.base64.specs.declared.engine.general_purpose.GeneralPurpose.{GeneralPurpose}
use Rattle.base64.specs.GeneralPurpose.{decode_of}
use Rattle.base64.proofs.EngineFacts.{decode_of_iff, decode_of_strict}
use Rattle.carrier_model.specs.Bytes.{AllBytes}
use Rattle.mail_model.specs.Base64.{alphabet, symbol, base64_text}
use Rattle.mail_model.specs.Envelope.{characters}
use Rattle.mail_model.proofs.EnvelopeText.{base64_text-append}
use Rattle.mime_envelope.specs.Engine.{IsStandard}
use Rattle.mime_envelope.proofs.Coded.{encode_of-is, IsStrict-standard}

-- the bytes that a text codes, as far as they are known to be there
abbrev pub Coded : List ℕ → Type 0
Coded text = (p : List ℕ) × AllBytes p × (text ≡ base64_text p)

none_behind : (xs ys : List ℕ) → xs ++ ys ≡ [] → ys ≡ []
none_behind [] ys e = e
none_behind (x ∷ xs) ys e = absurd (cc e)

none_before : (xs ys : List ℕ) → xs ++ ys ≡ [] → xs ≡ []
none_before [] ys e = refl
none_before (x ∷ xs) ys e = absurd (cc e)

no_text : (text : List ℕ) → text ≡ [] → Coded text
unfolding base64_text
no_text text e = ([], λ i. omega arith, e)

-- what stands behind the text of whole groups
behind_whole : (old p text : List ℕ) → length old % 3 ≡ 0 → AllBytes p → base64_text old ++ text ≡ base64_text p → Coded text
unfolding base64_text
behind_whole [] p text whole all e = (p, all, e)
behind_whole (a ∷ []) p text whole all e = absurd (omega arith)
behind_whole (a ∷ b ∷ []) p text whole all e = absurd (omega arith)
behind_whole (a ∷ b ∷ c ∷ old) [] text whole all e = absurd (cc e)
behind_whole (a ∷ b ∷ c ∷ old) (x ∷ []) text whole all e = no_text text (none_behind (base64_text old) text (ap (drop 4) e))
behind_whole (a ∷ b ∷ c ∷ old) (x ∷ y ∷ []) text whole all e = no_text text (none_behind (base64_text old) text (ap (drop 4) e))
behind_whole (a ∷ b ∷ c ∷ old) (x ∷ y ∷ z ∷ p) text whole all e = behind_whole old p text (omega arith) (λ i. all (suc (suc (suc i)))) (ap (drop 4) e)

three_more : (x y z : ℕ) (p r : List ℕ) → AllBytes (x ∷ y ∷ z ∷ p) → AllBytes r → AllBytes (x ∷ y ∷ z ∷ r)
three_more x y z p r all others zero = all 0
three_more x y z p r all others (suc zero) = all 1
three_more x y z p r all others (suc (suc zero)) = all 2
three_more x y z p r all others (suc (suc (suc i))) = others i

-- whole groups in front of a text
front_whole : (piece p rest : List ℕ) → length piece % 4 ≡ 0 → AllBytes p → piece ++ rest ≡ base64_text p → Coded piece
unfolding base64_text
front_whole [] p rest whole all e = no_text [] refl
front_whole (s ∷ []) p rest whole all e = absurd (omega arith)
front_whole (s ∷ t ∷ []) p rest whole all e = absurd (omega arith)
front_whole (s ∷ t ∷ u ∷ []) p rest whole all e = absurd (omega arith)
front_whole (s ∷ t ∷ u ∷ v ∷ piece) [] rest whole all e = absurd (cc e)
front_whole (s ∷ t ∷ u ∷ v ∷ piece) (x ∷ []) rest whole all e =
    (x ∷ [], all, (λ i. s ∷ t ∷ u ∷ v ∷ none_before piece rest (ap (drop 4) e) i) ∙ ap (take 4) e)
front_whole (s ∷ t ∷ u ∷ v ∷ piece) (x ∷ y ∷ []) rest whole all e =
    (x ∷ y ∷ [], all, (λ i. s ∷ t ∷ u ∷ v ∷ none_before piece rest (ap (drop 4) e) i) ∙ ap (take 4) e)
front_whole (s ∷ t ∷ u ∷ v ∷ piece) (x ∷ y ∷ z ∷ p) rest whole all e =
    let more = front_whole piece p rest (omega arith) (λ i. all (suc (suc (suc i)))) (ap (drop 4) e) in
    (x ∷ y ∷ z ∷ more.0, three_more x y z p more.0 all more.1, (λ i. s ∷ t ∷ u ∷ v ∷ more.2 i) ∙ ap (λ (l : List ℕ). take 4 l ++ base64_text more.0) e)

-- ---- padding

no_padding : list_all (λ c. not (c == 61)) alphabet ≡ true
unfolding alphabet
no_padding = refl

alphabet_size : length alphabet ≡ 64
unfolding alphabet
alphabet_size = refl

not_padding : (n : ℕ) → n < 64 → symbol n ≡ 61 → ⊥
not_padding n lt is =
    let test : not (symbol n == 61) ≡ true = AllPass-from_list_all (λ c. not (c == 61)) alphabet no_padding n 0 (omega (arith, alphabet_size)) in
    grind (arith, nat_tests, test, is)

some_text : (text : List ℕ) → 0 < length text → text ≡ [] → ⊥
some_text [] some e = omega arith
some_text (c ∷ text) some e = cc e

-- nothing stands behind padding
padded : (old p text : List ℕ) → (length old % 3 ≡ 0 → ⊥) → 0 < length text → base64_text old ++ text ≡ base64_text p → ⊥
unfolding base64_text
padded [] p text part some e = part refl
padded (a ∷ []) [] text part some e = cc e
padded (a ∷ []) (x ∷ []) text part some e = some_text text some (ap (drop 4) e)
padded (a ∷ []) (x ∷ y ∷ []) text part some e = some_text text some (ap (drop 4) e)
padded (a ∷ []) (x ∷ y ∷ z ∷ p) text part some e = not_padding (z % 64) (omega arith) (sym (ap (λ (l : List ℕ). get_or l 3 0) e))
padded (a ∷ b ∷ []) [] text part some e = cc e
padded (a ∷ b ∷ []) (x ∷ []) text part some e = some_text text some (ap (drop 4) e)
padded (a ∷ b ∷ []) (x ∷ y ∷ []) text part some e = some_text text some (ap (drop 4) e)
padded (a ∷ b ∷ []) (x ∷ y ∷ z ∷ p) text part some e = not_padding (z % 64) (omega arith) (sym (ap (λ (l : List ℕ). get_or l 3 0) e))
padded (a ∷ b ∷ c ∷ old) [] text part some e = cc e
padded (a ∷ b ∷ c ∷ old) (x ∷ []) text part some e = some_text text some (none_behind (base64_text old) text (ap (drop 4) e))
padded (a ∷ b ∷ c ∷ old) (x ∷ y ∷ []) text part some e = some_text text some (none_behind (base64_text old) text (ap (drop 4) e))
padded (a ∷ b ∷ c ∷ old) (x ∷ y ∷ z ∷ p) text part some e = padded old p text (λ whole. part (omega arith)) some (ap (drop 4) e)

-- ---- a piece

pub all_bytes : (xs : List ℕ) → ((i : ℕ) → i < length xs → get_or xs i 0 < 256) → AllBytes xs
all_bytes xs each i = elim (cases_lt i (length xs)) [
  | inl lt ↦ each i lt
  | inr past ↦ rw (get_or_past xs i 0 past) (omega arith)
]

pub behind_padding : (old piece rest p : List ℕ) → (length old % 3 ≡ 0 → ⊥) → 0 < length piece → base64_text old ++ (piece ++ rest) ≡ base64_text p → ⊥
behind_padding old piece rest p part some e = padded old p (piece ++ rest) part (omega (arith, length-append piece rest)) e

piece_coded : (piece rest p : List ℕ) → (length piece % 4 ≡ 0) ⊎ (rest ≡ []) → AllBytes p → piece ++ rest ≡ base64_text p → Coded piece
piece_coded piece rest p (inl whole) all e = front_whole piece p rest whole all e
piece_coded piece rest p (inr none) all e = (p, all, sym (append-nil piece) ∙ ap (λ (l : List ℕ). piece ++ l) (sym none) ∙ e)

-- a piece that doesn't decode
pub piece_refused : (e : GeneralPurpose) (d : DecodeError) (old piece rest p : List ℕ) → IsStandard e → AllBytes piece → decode_of e piece ≡ Err d → length old % 3 ≡ 0 → (length piece % 4 ≡ 0) ⊎ (rest ≡ []) → AllBytes p → base64_text old ++ (piece ++ rest) ≡ base64_text p → ⊥
piece_refused e d old piece rest p standard bytes bad whole last all is =
    let behind = behind_whole old p (piece ++ rest) whole all is in
    let coded = piece_coded piece rest behind.0 last behind.1 behind.2 in
    let good = (decode_of_iff e piece coded.0 (IsStrict-standard e standard) bytes coded.1).1 (coded.2 ∙ sym (encode_of-is e coded.0 standard)) in
    cc (good, bad)

-- and one that does
pub piece_taken : (e : GeneralPurpose) (old piece bytes new : List ℕ) → IsStandard e → AllBytes piece → decode_of e piece ≡ Ok bytes → length old % 3 ≡ 0 → new ≡ old ++ bytes → base64_text new ≡ base64_text old ++ piece
piece_taken e old piece bytes new standard all good whole grown =
    ap base64_text grown
    ∙ base64_text-append old bytes whole
    ∙ ap (λ (l : List ℕ). base64_text old ++ l) (sym (decode_of_strict e piece bytes (IsStrict-standard e standard) all good ∙ encode_of-is e bytes standard))

-- what stands behind a piece that isn't full is nothing
pub last_piece : (piece rest : List ℕ) → (length piece ≡ 4096) ⊎ (rest ≡ []) → (length piece % 4 ≡ 0) ⊎ (characters rest ≡ [])
last_piece piece rest (inl full) = inl (rw full refl)
last_piece piece rest (inr none) = inr (ap characters none)
