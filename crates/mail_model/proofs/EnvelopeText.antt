-- The base64 text in lines, line by line.
use Rattle.std.proofs.Common.{◌≡◌, ℕ, zero, suc, ◌+◌, ◌*◌, ◌/◌, ◌%◌, ◌<◌, ◌≤◌, min, List, [], ◌∷◌, ◌++◌, length, take, drop, refl, sym, ap, ◌∙◌, arith, length-append, inl, inr}
use Rattle.std.proofs.lemmas.List.{append-nil, take-append-drop, take_at, drop_at, take_all, drop_all, length-take, length-drop}
use Rattle.std.proofs.lemmas.Bool.{cases_lt}
use Rattle.std.specs.Int.{div_ceil}
use Rattle.mail_model.specs.Base64.{symbol, base64_text}
use Rattle.mail_model.specs.EnvelopeText.{line_end, version_line, type_line, encoding_line, disposition_line, envelope_head, text_lines, body_lines, envelope_of}

pub length-base64_text : (m : List ℕ) → length (base64_text m) ≡ (length m + 2) / 3 * 4
unfolding base64_text
length-base64_text [] = refl
length-base64_text (a ∷ []) = refl
length-base64_text (a ∷ b ∷ []) = refl
length-base64_text (a ∷ b ∷ c ∷ rest) =
    let more : length (base64_text rest) ≡ (length rest + 2) / 3 * 4 = length-base64_text rest in
    omega arith

pub base64_text-append : (xs ys : List ℕ) → length xs % 3 ≡ 0 → base64_text (xs ++ ys) ≡ base64_text xs ++ base64_text ys
unfolding base64_text
base64_text-append [] ys h = refl
base64_text-append (a ∷ []) ys h = absurd (omega arith)
base64_text-append (a ∷ b ∷ []) ys h = absurd (omega arith)
base64_text-append (a ∷ b ∷ c ∷ rest) ys h =
    ap (λ (s : List ℕ). symbol (a / 4) ∷ symbol (a % 4 * 16 + b / 16) ∷ symbol (b % 16 * 4 + c / 64) ∷ symbol (c % 64) ∷ s) (base64_text-append rest ys (omega arith))

-- a line of text, and what follows it
pub text_lines-more : (n : ℕ) (line rest : List ℕ) → length line ≡ 76 → text_lines (suc n) (line ++ rest) ≡ (line ++ line_end) ++ text_lines n rest
unfolding text_lines
text_lines-more n line rest is =
    rw (take_at line rest 76 is, drop_at line rest 76 is) refl

pub body_lines-none : body_lines [] ≡ []
unfolding body_lines text_lines base64_text
body_lines-none = refl

one_line : (text : List ℕ) → 0 < length text → length text ≤ 76 → text_lines (div_ceil (length text) 76) text ≡ text ++ line_end
unfolding text_lines
one_line text some few =
    let one : div_ceil (length text) 76 ≡ suc zero = omega arith in
    rw (one, take_all 76 text few) (append-nil (text ++ line_end))

pub body_lines-more : (bytes : List ℕ) → 0 < length bytes → body_lines bytes ≡ (base64_text (take 57 bytes) ++ line_end) ++ body_lines (drop 57 bytes)
unfolding body_lines
body_lines-more bytes some =
    let size = length-base64_text bytes in
    let front = length-base64_text (take 57 bytes) in
    let back = length-base64_text (drop 57 bytes) in
    let lt = length-take 57 bytes in
    let ld = length-drop 57 bytes in
    elim (cases_lt 57 (length bytes)) [
      | inl more ↦
          let whole : base64_text bytes ≡ base64_text (take 57 bytes) ++ base64_text (drop 57 bytes) =
          ap base64_text (sym (take-append-drop 57 bytes)) ∙ base64_text-append (take 57 bytes) (drop 57 bytes) (omega arith) in
          let full : length (base64_text (take 57 bytes)) ≡ 76 = omega arith in
          let count : div_ceil (length (base64_text bytes)) 76 ≡ suc (div_ceil (length (base64_text (drop 57 bytes))) 76) = omega arith in
          ap (λ (n : ℕ). text_lines n (base64_text bytes)) count
          ∙ ap (text_lines (suc (div_ceil (length (base64_text (drop 57 bytes))) 76))) whole
          ∙ text_lines-more (div_ceil (length (base64_text (drop 57 bytes))) 76) (base64_text (take 57 bytes)) (base64_text (drop 57 bytes)) full
      | inr few ↦
          let none : drop 57 bytes ≡ [] = drop_all 57 bytes few in
          let whole : take 57 bytes ≡ bytes = take_all 57 bytes few in
          one_line (base64_text bytes) (omega arith) (omega arith)
          ∙ sym (append-nil (base64_text bytes ++ line_end))
          ∙ ap (λ (z : List ℕ). (base64_text z ++ line_end) ++ []) (sym whole)
          ∙ ap (λ (z : List ℕ). (base64_text (take 57 bytes) ++ line_end) ++ z) (sym (ap body_lines none ∙ body_lines-none))
    ]

-- the same, where the line was cut off by its length
pub body_lines-split : (bytes line after : List ℕ) (n : ℕ) → 0 < length bytes → n ≡ min (length bytes) 57 → line ≡ take n bytes → after ≡ drop n bytes → body_lines bytes ≡ (base64_text line ++ line_end) ++ body_lines after
body_lines-split bytes line after n some is front back =
    let taken : take 57 bytes ≡ line =
    elim (cases_lt 57 (length bytes)) [
      | inl more ↦ let at : n ≡ 57 = omega arith in sym (front ∙ ap (λ (k : ℕ). take k bytes) at)
      | inr few ↦ take_all 57 bytes few ∙ sym (front ∙ take_all n bytes (omega arith))
    ] in
    let left : drop 57 bytes ≡ after =
    elim (cases_lt 57 (length bytes)) [
      | inl more ↦ let at : n ≡ 57 = omega arith in sym (back ∙ ap (λ (k : ℕ). drop k bytes) at)
      | inr few ↦ drop_all 57 bytes few ∙ sym (back ∙ drop_all n bytes (omega arith))
    ] in
    body_lines-more bytes some
    ∙ ap (λ (z : List ℕ). (base64_text z ++ line_end) ++ body_lines (drop 57 bytes)) taken
    ∙ ap (λ (z : List ℕ). (base64_text line ++ line_end) ++ body_lines z) left

pub length-text_lines : (n : ℕ) (text : List ℕ) → length text ≤ 76 * n → length (text_lines n text) ≡ length text + 2 * n
unfolding text_lines
length-text_lines zero text few = omega arith
length-text_lines (suc n) text few =
    let rest : length (text_lines n (drop 76 text)) ≡ length (drop 76 text) + 2 * n = length-text_lines n (drop 76 text) (omega (arith, length-drop 76 text)) in
    let joined = length-append (take 76 text ++ line_end) (text_lines n (drop 76 text)) in
    omega (arith, length-append (take 76 text) line_end, length-drop 76 text, length-take 76 text)

pub length-envelope_of : (bytes : List ℕ) → length (envelope_of bytes) ≡ 168 + div_ceil (length bytes) 3 * 4 + div_ceil (div_ceil (length bytes) 3 * 4) 76 * 2
unfolding envelope_of envelope_head body_lines version_line type_line encoding_line disposition_line
length-envelope_of bytes =
    let size = length-base64_text bytes in
    let text = length-text_lines (div_ceil (length (base64_text bytes)) 76) (base64_text bytes) (omega arith) in
    let head : length envelope_head ≡ 168 = refl in
    let joined = length-append envelope_head (body_lines bytes) in
    omega arith
