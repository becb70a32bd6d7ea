-- What the loops over a text's bytes have found.
use Rattle.std.proofs.Common.{◌≡◌, ℕ, suc, ◌+◌, ◌-◌, ◌≤◌, min, inl, inr, Bool, true, false, nat_eq, List, [], ◌∷◌, length, take, drop, refl, sym, ap, ◌∙◌, arith}
use Rattle.std.proofs.lemmas.Bool.Decides.{nat_tests}
use Rattle.std.proofs.lemmas.List.Sums.{suffix_len-le-length}
use Rattle.std.proofs.lemmas.List.{length-take, take_all}
use Rattle.std.proofs.lemmas.Bool.{cases_lt}
use Rattle.std.specs.List.{prefix_len, suffix_len, list_all, starts_with}
use Rattle.mail_model.specs.Lines.{is_blank, trimmed, text_of, is_word, is_mark, size_before, before}

pub trimmed_is : (bytes rest : List ℕ) (n end : ℕ) → n ≡ prefix_len is_blank bytes → rest ≡ drop n bytes → end ≤ length rest → suffix_len is_blank rest ≡ length rest - end → take end rest ≡ trimmed bytes
unfolding trimmed
trimmed_is bytes rest n end count back within size =
    let left : drop (prefix_len is_blank bytes) bytes ≡ rest = ap (λ (k : ℕ). drop k bytes) (sym count) ∙ sym back in
    let stop : end ≡ length rest - suffix_len is_blank rest = omega arith in
    rw (left, ← stop) refl

eq_more : (a b : ℕ) → nat_eq (1 + a) (suc b) ≡ nat_eq a b
eq_more a b = grind (arith, nat_tests)

eq_none : (b : ℕ) → nat_eq 0 (suc b) ≡ false
eq_none b = grind (arith, nat_tests)

prefix_all_by : (c : ℕ) (rest : List ℕ) (v : Bool) → is_blank c ≡ v → nat_eq (prefix_len is_blank rest) (length rest) ≡ list_all is_blank rest → nat_eq (prefix_len is_blank (c ∷ rest)) (length (c ∷ rest)) ≡ list_all is_blank (c ∷ rest)
prefix_all_by c rest true e ih = rw e (eq_more (prefix_len is_blank rest) (length rest) ∙ ih)
prefix_all_by c rest false e ih = rw e (eq_none (length rest))

-- all are blanks where as many are at the front
pub prefix_all : (rest : List ℕ) → nat_eq (prefix_len is_blank rest) (length rest) ≡ list_all is_blank rest
prefix_all [] = refl
prefix_all (c ∷ rest) = prefix_all_by c rest (is_blank c) refl (prefix_all rest)

-- nothing is left before the end
pub suffix_none : (rest : List ℕ) (end : ℕ) → end ≤ 0 → suffix_len is_blank rest ≡ (length rest - end) + suffix_len is_blank (take end rest) → suffix_len is_blank rest ≡ length rest - end
suffix_none rest end zero counted = omega (arith, suffix_len-le-length is_blank (take end rest), length-take end rest)

-- a line that begins with a mark
pub mark_is : (mark line text rest : List ℕ) (n : ℕ) → text ≡ text_of line → true ≡ starts_with nat_eq text mark → rest ≡ drop (length mark) text → n ≡ prefix_len is_blank rest → nat_eq n (length rest) ≡ is_mark mark line
unfolding is_mark
mark_is mark line text rest n is starts back count =
    rw (sym is, sym starts) (ap (λ (k : ℕ). nat_eq k (length rest)) count ∙ prefix_all rest ∙ ap (list_all is_blank) back)

-- a test of what stands before a colon
pub word_before : (name line front : List ℕ) (n : ℕ) (b : Bool) → n ≡ size_before 58 line → front ≡ take n line → b ≡ is_word name front → b ≡ is_word name (before 58 line)
word_before name line front n b size is test = test ∙ ap (is_word name) (is ∙ ap (λ (k : ℕ). take k line) size)

pub take_least : (xs front : List ℕ) (n k : ℕ) → n ≡ min (length xs) k → front ≡ take n xs → front ≡ take k xs
take_least xs front n k least is =
    elim (cases_lt k (length xs)) [
      | inl more ↦ let at : n ≡ k = omega arith in is ∙ ap (λ (i : ℕ). take i xs) at
      | inr few ↦ is ∙ take_all n xs (omega arith) ∙ sym (take_all k xs few)
    ]
