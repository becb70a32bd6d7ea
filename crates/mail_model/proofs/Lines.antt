-- The lines of bytes, one after the other.
use Rattle.std.proofs.Common.{◌≡◌, ℕ, suc, ◌+◌, ◌<◌, ◌==◌, min, Bool, true, false, List, [], ◌∷◌, length, take, drop, refl, sym, ap, ◌∙◌, arith}
use Rattle.std.specs.List.{concat}
use Rattle.mail_model.specs.Lines.{lines, begin_with, size_before}

abbrev line_size : List ℕ → ℕ
line_size bytes = min (size_before 10 bytes + 1) (length bytes)

by_end : (c : ℕ) (rest : List ℕ) (v : Bool) → (c == 10) ≡ v → (0 < length rest → lines rest ≡ take (line_size rest) rest ∷ lines (drop (line_size rest) rest)) → lines (c ∷ rest) ≡ take (line_size (c ∷ rest)) (c ∷ rest) ∷ lines (drop (line_size (c ∷ rest)) (c ∷ rest))
unfolding lines size_before
by_end c rest true e ih =
    let one : line_size (c ∷ rest) ≡ 1 = rw e (omega arith) in
    rw (one, e) refl
by_end c [] false e ih =
    let one : line_size (c ∷ []) ≡ 1 = rw e (omega arith) in
    rw (one, e) refl
by_end c (d ∷ rest) false e ih =
    let more : line_size (c ∷ d ∷ rest) ≡ suc (line_size (d ∷ rest)) = rw e (omega arith) in
    let first = ih (omega arith) in
    let split : lines (c ∷ d ∷ rest) ≡ begin_with c (lines (d ∷ rest)) = rw e refl in
    split ∙ ap (begin_with c) first ∙ sym (ap (λ (n : ℕ). take n (c ∷ d ∷ rest) ∷ lines (drop n (c ∷ d ∷ rest))) more)

lines_first : (bytes : List ℕ) → 0 < length bytes → lines bytes ≡ take (line_size bytes) bytes ∷ lines (drop (line_size bytes) bytes)
lines_first [] some = absurd (omega arith)
lines_first (c ∷ rest) some = by_end c rest (c == 10) refl (lines_first rest)

-- the first line reaches behind the first line feed, or to the end
pub lines-split : (bytes line after : List ℕ) (n : ℕ) → 0 < length bytes → n ≡ min (size_before 10 bytes + 1) (length bytes) → line ≡ take n bytes → after ≡ drop n bytes → lines bytes ≡ line ∷ lines after
lines-split bytes line after n some size front back =
    rw (front, back, size) (lines_first bytes some)

pub lines-none : (bytes : List ℕ) → bytes ≡ [] → lines bytes ≡ []
unfolding lines
lines-none bytes e = ap lines e

concat_begin : (c : ℕ) (ls : List (List ℕ)) → concat (begin_with c ls) ≡ c ∷ concat ls
concat_begin c [] = refl
concat_begin c (l ∷ ls) = refl

concat_by : (c : ℕ) (rest : List ℕ) (v : Bool) → (c == 10) ≡ v → concat (lines rest) ≡ rest → concat (lines (c ∷ rest)) ≡ c ∷ rest
unfolding lines
concat_by c rest true e ih = rw e (ap (λ (z : List ℕ). c ∷ z) ih)
concat_by c rest false e ih = rw e (concat_begin c (lines rest) ∙ ap (λ (z : List ℕ). c ∷ z) ih)

-- the lines are the bytes
pub concat-lines : (bytes : List ℕ) → concat (lines bytes) ≡ bytes
unfolding lines
concat-lines [] = refl
concat-lines (c ∷ rest) = concat_by c rest (c == 10) refl (concat-lines rest)
