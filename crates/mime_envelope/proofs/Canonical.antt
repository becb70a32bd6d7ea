-- The canonical envelope, read.
use Rattle.std.proofs.Common.{◌≡◌, ℕ, zero, suc, ◌+◌, ◌*◌, ◌/◌, ◌%◌, ◌<◌, ◌≤◌, ◌&&◌, get_or, Bool, true, false, not, List, [], ◌∷◌, ◌++◌, length, take, drop, codes, Option, Some, None, Ok, inl, inr, refl, sym, ap, ◌∙◌, append_assoc, arith}
use Rattle.std.proofs.lemmas.Bool.Decides.{nat_tests}
use Rattle.std.proofs.lemmas.Bool.{cases_lt}
use Rattle.std.proofs.lemmas.List.{take-append-drop, get_or_past, length-drop}
use Rattle.std.proofs.lemmas.List.Elements.{filter-append}
use Rattle.std.proofs.lemmas.List.Folds.{list_all-append}
use Rattle.std.proofs.lemmas.List.Sums.{AllPass-from_list_all}
use Rattle.std.specs.List.{concat, list_all}
use Rattle.std.specs.Int.{div_ceil}
use Rattle.base64.specs.declared.engine.general_purpose.GeneralPurpose.{GeneralPurpose}
use Rattle.base64.proofs.EngineFacts.{decode_of_iff}
use Rattle.mail_model.specs.Base64.{alphabet, symbol, base64_text}
use Rattle.carrier_model.specs.Bytes.{AllBytes}
use Rattle.mail_model.specs.EnvelopeText.{line_end, version_line, type_line, encoding_line, disposition_line, envelope_head, text_lines, body_lines, envelope_of}
use Rattle.mail_model.specs.Lines.{lines, text_of, trimmed, size_before, is_word}
use Rattle.mail_model.specs.Entities.{body_of, continued, field, is_tnef}
use Rattle.mail_model.specs.Envelope.{Part, search, bad_encoding, bad_character, is_character, is_skipped, characters, envelope_text, Envelope}
use Rattle.mail_model.proofs.Lines.{concat-lines}
use Rattle.mime_envelope.specs.Engine.{IsStandard}
use Rattle.mime_envelope.proofs.Coded.{encode_of-is, IsStrict-standard}
use Rattle.mime_envelope.proofs.Readings.{text_good, same_text}
use Rattle.mime_envelope.proofs.Searches.{search_tnef, some_part}

-- ---- the header

abbrev head_lines : List (List ℕ) → List (List ℕ)
head_lines rest = version_line ∷ type_line ∷ encoding_line ∷ disposition_line ∷ line_end ∷ rest

lines_head : (rest : List ℕ) → lines (envelope_head ++ rest) ≡ head_lines (lines rest)
unfolding lines envelope_head version_line type_line encoding_line disposition_line
lines_head rest = refl

head_body : (rest : List (List ℕ)) → body_of true 0 (head_lines rest) ≡ Ok (168, rest)
unfolding body_of text_of size_before version_line type_line encoding_line disposition_line
head_body rest = refl

unfoldable kind_value : List ℕ
kind_value = codes " application/ms-tnef; name=\"winmail.dat\""

head_kind : (rest : List (List ℕ)) → Some (19, kind_value) ≡ field (codes "content-type") 0 (head_lines rest)
unfolding field continued text_of size_before trimmed is_word kind_value version_line type_line encoding_line disposition_line
head_kind rest = refl

kind_tnef : true ≡ is_tnef kind_value
unfolding kind_value is_word trimmed size_before
kind_tnef = refl

head_encoding : (rest : List (List ℕ)) → field (codes "content-transfer-encoding") 0 (head_lines rest) ≡ Some (74, codes " base64")
unfolding field continued text_of size_before trimmed is_word version_line type_line encoding_line disposition_line
head_encoding rest = refl

-- the part that the canonical envelope has
abbrev the_part : List ℕ → Part
the_part body = record { encoding = Some (74, codes " base64"); place = 168; body = body }

found_part : (bytes : List ℕ) → search 16 0 (envelope_of bytes) ≡ Ok (Some (the_part (body_lines bytes)))
unfolding envelope_of
found_part bytes =
    let split = lines_head (body_lines bytes) in
    search_tnef 16 0 (envelope_head ++ body_lines bytes) (168, lines (body_lines bytes)) (19, kind_value)
    (ap (body_of true 0) split ∙ head_body (lines (body_lines bytes)))
    (head_kind (lines (body_lines bytes)) ∙ ap (field (codes "content-type") 0) (sym split))
    kind_tnef
    ∙ ap (λ (e : Option (ℕ × List ℕ)). some_part e 168 (concat (lines (body_lines bytes)))) (ap (field (codes "content-transfer-encoding") 0) split ∙ head_encoding (lines (body_lines bytes)))
    ∙ ap (λ (z : List ℕ). some_part (Some (74, codes " base64")) 168 z) (concat-lines (body_lines bytes))

good_encoding : (body : List ℕ) → bad_encoding (the_part body) ≡ None
unfolding is_word trimmed
good_encoding body = refl

-- ---- the body

alphabet_good : list_all is_character alphabet ≡ true
unfolding alphabet
alphabet_good = refl

alphabet_size : length alphabet ≡ 64
unfolding alphabet
alphabet_size = refl

symbol_good : (n : ℕ) → n < 64 → is_character (symbol n) ≡ true
symbol_good n lt = AllPass-from_list_all is_character alphabet alphabet_good n 0 (omega (arith, alphabet_size))

all_more : (c : ℕ) (rest : List ℕ) → is_character c ≡ true → list_all is_character rest ≡ true → list_all is_character (c ∷ rest) ≡ true
all_more c rest e f = rw (e, f) refl

all_four : (p q r s : ℕ) (rest : List ℕ) → is_character p ≡ true → is_character q ≡ true → is_character r ≡ true → is_character s ≡ true → list_all is_character rest ≡ true → list_all is_character (p ∷ q ∷ r ∷ s ∷ rest) ≡ true
all_four p q r s rest a b c d e = all_more p (q ∷ r ∷ s ∷ rest) a (all_more q (r ∷ s ∷ rest) b (all_more r (s ∷ rest) c (all_more s rest d e)))

text_good_characters : (m : List ℕ) → AllBytes m → list_all is_character (base64_text m) ≡ true
unfolding base64_text
text_good_characters [] all = refl
text_good_characters (a ∷ []) all =
    let a_in : a < 256 = all 0 in
    all_four (symbol (a / 4)) (symbol (a % 4 * 16)) 61 61 [] (symbol_good (a / 4) (omega arith)) (symbol_good (a % 4 * 16) (omega arith)) refl refl refl
text_good_characters (a ∷ b ∷ []) all =
    let a_in : a < 256 = all 0 in
    let b_in : b < 256 = all 1 in
    all_four (symbol (a / 4)) (symbol (a % 4 * 16 + b / 16)) (symbol (b % 16 * 4)) 61 [] (symbol_good (a / 4) (omega arith)) (symbol_good (a % 4 * 16 + b / 16) (omega arith)) (symbol_good (b % 16 * 4) (omega arith)) refl refl
text_good_characters (a ∷ b ∷ c ∷ rest) all =
    let a_in : a < 256 = all 0 in
    let b_in : b < 256 = all 1 in
    let c_in : c < 256 = all 2 in
    all_four (symbol (a / 4)) (symbol (a % 4 * 16 + b / 16)) (symbol (b % 16 * 4 + c / 64)) (symbol (c % 64)) (base64_text rest)
    (symbol_good (a / 4) (omega arith)) (symbol_good (a % 4 * 16 + b / 16) (omega arith)) (symbol_good (b % 16 * 4 + c / 64) (omega arith)) (symbol_good (c % 64) (omega arith))
    (text_good_characters rest (λ i. all (suc (suc (suc i)))))

not_skipped : (c : ℕ) → is_character c ≡ true → is_skipped c ≡ false
not_skipped c e = grind (arith, nat_tests)

by_test : (a b : Bool) → (a && b) ≡ true → a ≡ true
by_test true b h = refl
by_test false b h = absurd cc

by_rest : (a b : Bool) → (a && b) ≡ true → b ≡ true
by_rest true b h = h
by_rest false b h = absurd cc

all_head : (c : ℕ) (rest : List ℕ) → list_all is_character (c ∷ rest) ≡ true → is_character c ≡ true
all_head c rest h = by_test (is_character c) (list_all is_character rest) h

all_tail : (c : ℕ) (rest : List ℕ) → list_all is_character (c ∷ rest) ≡ true → list_all is_character rest ≡ true
all_tail c rest h = by_rest (is_character c) (list_all is_character rest) h

-- characters and line ends are never bad
bad_over : (at c : ℕ) (rest : List ℕ) → is_character c ≡ true → bad_character at (c ∷ rest) ≡ bad_character (at + 1) rest
unfolding bad_character
bad_over at c rest e = rw (not_skipped c e, e) refl

bad_append : (at : ℕ) (xs ys : List ℕ) → list_all is_character xs ≡ true → ((n : ℕ) → bad_character n ys ≡ None) → bad_character at (xs ++ ys) ≡ None
bad_append at [] ys h none = none at
bad_append at (c ∷ rest) ys h none = bad_over at c (rest ++ ys) (all_head c rest h) ∙ bad_append (at + 1) rest ys (all_tail c rest h) none

bad_end : (ys : List ℕ) → ((n : ℕ) → bad_character n ys ≡ None) → (at : ℕ) → bad_character at (line_end ++ ys) ≡ None
unfolding bad_character
bad_end ys none at = none (at + 1 + 1)

all_take : (n : ℕ) (text : List ℕ) → list_all is_character text ≡ true → list_all is_character (take n text) ≡ true
all_take n text h = by_test (list_all is_character (take n text)) (list_all is_character (drop n text)) (sym (list_all-append is_character (take n text) (drop n text)) ∙ ap (list_all is_character) (take-append-drop n text) ∙ h)

all_drop : (n : ℕ) (text : List ℕ) → list_all is_character text ≡ true → list_all is_character (drop n text) ≡ true
all_drop n text h = by_rest (list_all is_character (take n text)) (list_all is_character (drop n text)) (sym (list_all-append is_character (take n text) (drop n text)) ∙ ap (list_all is_character) (take-append-drop n text) ∙ h)

bad_lines : (n : ℕ) (text : List ℕ) → list_all is_character text ≡ true → (at : ℕ) → bad_character at (text_lines n text) ≡ None
unfolding text_lines bad_character
bad_lines zero text h at = refl
bad_lines (suc n) text h at =
    ap (bad_character at) (append_assoc (take 76 text) line_end (text_lines n (drop 76 text)))
    ∙ bad_append at (take 76 text) (line_end ++ text_lines n (drop 76 text)) (all_take 76 text h) (bad_end (text_lines n (drop 76 text)) (bad_lines n (drop 76 text) (all_drop 76 text h)))

keep_all : (xs : List ℕ) → list_all is_character xs ≡ true → characters xs ≡ xs
keep_all [] h = refl
keep_all (c ∷ rest) h = rw (not_skipped c (all_head c rest h)) (ap (λ (z : List ℕ). c ∷ z) (keep_all rest (all_tail c rest h)))

none_of : (text : List ℕ) → length text ≤ 0 → [] ≡ text
none_of [] few = refl
none_of (c ∷ rest) few = absurd (omega arith)

keep_lines : (n : ℕ) (text : List ℕ) → list_all is_character text ≡ true → length text ≤ 76 * n → characters (text_lines n text) ≡ text
unfolding text_lines
keep_lines zero text h few = none_of text (omega arith)
keep_lines (suc n) text h few =
    let rest = text_lines n (drop 76 text) in
    ap characters (append_assoc (take 76 text) line_end rest)
    ∙ filter-append (λ c. not (is_skipped c)) (take 76 text) (line_end ++ rest)
    ∙ ap (λ (z : List ℕ). z ++ characters rest) (keep_all (take 76 text) (all_take 76 text h))
    ∙ ap (λ (z : List ℕ). take 76 text ++ z) (keep_lines n (drop 76 text) (all_drop 76 text h) (omega (arith, length-drop 76 text)))
    ∙ take-append-drop 76 text

canonical_text : (bytes : List ℕ) → AllBytes bytes → envelope_text (envelope_of bytes) ≡ Ok (168 + length (body_lines bytes), base64_text bytes)
unfolding body_lines
canonical_text bytes all =
    let good = text_good_characters bytes all in
    let n = div_ceil (length (base64_text bytes)) 76 in
    text_good (envelope_of bytes) (the_part (body_lines bytes)) (base64_text bytes) (found_part bytes) (good_encoding (body_lines bytes))
    (bad_lines n (base64_text bytes) good 168)
    (sym (keep_lines n (base64_text bytes) good (omega arith)))

pub carries_its_bytes : (bytes : List ℕ) → AllBytes bytes → Envelope (envelope_of bytes) bytes
carries_its_bytes bytes all = record {
  end = 168 + length (body_lines bytes);
  text = base64_text bytes;
  found = canonical_text bytes all;
  bytes_only = all;
  coded = refl;
}

below_256 : (c : ℕ) → is_character c ≡ true → c < 256
below_256 c e = grind (arith, nat_tests)

text_bytes : (bytes : List ℕ) → AllBytes bytes → AllBytes (base64_text bytes)
text_bytes bytes all k =
    elim (cases_lt k (length (base64_text bytes))) [
      | inl lt ↦ below_256 (get_or (base64_text bytes) k 0) (AllPass-from_list_all is_character (base64_text bytes) (text_good_characters bytes all) k 0 lt)
      | inr le ↦ rw (get_or_past (base64_text bytes) k 0 le) (omega arith)
    ]

-- two lists of bytes with one text are equal
pub one_text : (e : GeneralPurpose) → IsStandard e → (x y : List ℕ) → AllBytes x → AllBytes y → base64_text x ≡ base64_text y → y ≡ x
one_text e standard x y xb yb same =
    let strict = IsStrict-standard e standard in
    let first = (decode_of_iff e (base64_text x) x strict (text_bytes x xb) xb).1 (sym (encode_of-is e x standard)) in
    let second = (decode_of_iff e (base64_text x) y strict (text_bytes x xb) yb).1 (same ∙ sym (encode_of-is e y standard)) in
    cc (first, second)

pub carries_no_other : (e : GeneralPurpose) → IsStandard e → (bytes other : List ℕ) → AllBytes bytes → Envelope (envelope_of bytes) other → other ≡ bytes
carries_no_other e standard bytes other all m =
    one_text e standard bytes other all m.bytes_only (sym (same_text (envelope_of bytes) (168 + length (body_lines bytes)) m.end (base64_text bytes) m.text (canonical_text bytes all) m.found) ∙ m.coded)
