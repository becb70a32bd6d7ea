-- Parameters and quoted values, one character after the other.
use Rattle.std.proofs.Common.{◌≡◌, ℕ, zero, suc, ◌+◌, ◌-◌, ◌<◌, ◌≤◌, ◌==◌, ◌&&◌, if◌then◌else◌, Bool, true, false, List, [], ◌∷◌, length, drop, codes, Option, Some, None, refl, sym, ap, ◌∙◌, arith}
use Rattle.std.proofs.lemmas.Bool.Decides.{nat_tests}
use Rattle.mail_model.specs.Lines.{is_word, before, behind, size_before, trimmed}
use Rattle.mail_model.specs.Entities.{unquoted, quoted_size, is_parameter, is_quoted, value_on, parameter_value, protected_size, boundary}

-- a backslash that was read stands before the text
abbrev pub pending : Bool → List ℕ → List ℕ
pending true text = 92 ∷ text
pending false text = text

pub unquoted-none : (e : Bool) → unquoted (pending e []) ≡ (if e then 92 ∷ [] else [])
unfolding unquoted
unquoted-none true = refl
unquoted-none false = refl

pub unquoted-escaped : (c : ℕ) (text : List ℕ) → unquoted (pending true (c ∷ text)) ≡ c ∷ unquoted text
unfolding unquoted
unquoted-escaped c text = refl

pub unquoted-quote : (c : ℕ) (text : List ℕ) → (c == 34) ≡ true → unquoted (c ∷ text) ≡ []
unfolding unquoted
unquoted-quote c [] e = rw e refl
unquoted-quote c (d ∷ text) e = rw e refl

pub unquoted-backslash : (c : ℕ) (text : List ℕ) → (c == 92) ≡ true → unquoted (c ∷ text) ≡ unquoted (pending true text)
unquoted-backslash c text e = let is : c ≡ 92 = grind (arith, nat_tests) in rw is refl

pub unquoted-other : (c : ℕ) (text : List ℕ) → (c == 34) ≡ false → (c == 92) ≡ false → unquoted (c ∷ text) ≡ c ∷ unquoted text
unfolding unquoted
unquoted-other c [] e f = rw e refl
unquoted-other c (d ∷ text) e f = rw (e, f) refl

pub quoted_size-none : (e : Bool) → quoted_size (pending e []) ≡ (if e then 1 else 0)
unfolding quoted_size
quoted_size-none true = refl
quoted_size-none false = refl

pub quoted_size-escaped : (c : ℕ) (text : List ℕ) → quoted_size (pending true (c ∷ text)) ≡ 2 + quoted_size text
unfolding quoted_size
quoted_size-escaped c text = omega arith

pub quoted_size-quote : (c : ℕ) (text : List ℕ) → (c == 34) ≡ true → quoted_size (c ∷ text) ≡ 1
unfolding quoted_size
quoted_size-quote c [] e = refl
quoted_size-quote c (d ∷ text) e = rw e refl

pub quoted_size-backslash : (c : ℕ) (text : List ℕ) → (c == 92) ≡ true → quoted_size (c ∷ text) ≡ quoted_size (pending true text)
quoted_size-backslash c text e = let is : c ≡ 92 = grind (arith, nat_tests) in rw is refl

pub quoted_size-other : (c : ℕ) (text : List ℕ) → (c == 34) ≡ false → (c == 92) ≡ false → quoted_size (c ∷ text) ≡ 1 + quoted_size text
unfolding quoted_size
quoted_size-other c [] e f = refl
quoted_size-other c (d ∷ text) e f = rw (e, f) (omega arith)

-- what the parameter that begins here gives, or those behind it
abbrev pub boundary_from : List ℕ → Option (List ℕ)
boundary_from rest = if is_parameter rest && is_word (codes "boundary") (before 61 rest) then Some (parameter_value rest) else boundary (protected_size rest) rest

pub boundary-skip : (skip : ℕ) (text : List ℕ) → boundary skip text ≡ boundary 0 (drop skip text)
unfolding boundary
boundary-skip zero text = refl
boundary-skip (suc skip) [] = refl
boundary-skip (suc skip) (c ∷ rest) = boundary-skip skip rest

boundary_by : (c : ℕ) (rest : List ℕ) (v : Bool) → (c == 59) ≡ v → (size_before 59 rest < length rest → boundary 0 rest ≡ boundary_from (behind 59 rest)) → size_before 59 (c ∷ rest) < length (c ∷ rest) → boundary 0 (c ∷ rest) ≡ boundary_from (behind 59 (c ∷ rest))
unfolding boundary size_before
boundary_by c rest true e ih lt = rw e refl
boundary_by c rest false e ih lt =
    let fewer : size_before 59 rest < length rest = let h = rw e at lt in omega (arith, h) in
    let more : size_before 59 (c ∷ rest) ≡ suc (size_before 59 rest) = rw e (omega arith) in
    let step : boundary 0 (c ∷ rest) ≡ boundary 0 rest = rw e refl in
    let same : behind 59 (c ∷ rest) ≡ behind 59 rest = ap (λ (n : ℕ). drop n rest) more in
    step ∙ ih fewer ∙ sym (ap boundary_from same)

-- up to the first semicolon there is nothing
pub boundary-behind : (text : List ℕ) → size_before 59 text < length text → boundary 0 text ≡ boundary_from (behind 59 text)
boundary-behind [] lt = absurd (omega arith)
boundary-behind (c ∷ rest) lt = boundary_by c rest (c == 59) refl (boundary-behind rest) lt

boundary_none_by : (c : ℕ) (rest : List ℕ) (v : Bool) → (c == 59) ≡ v → (length rest ≤ size_before 59 rest → boundary 0 rest ≡ None) → length (c ∷ rest) ≤ size_before 59 (c ∷ rest) → boundary 0 (c ∷ rest) ≡ None
unfolding boundary size_before
boundary_none_by c rest true e ih le = let h = rw e at le in absurd (omega (arith, h))
boundary_none_by c rest false e ih le = let h = rw e at le in rw e (ih (omega (arith, h)))

pub boundary-none : (text : List ℕ) → length text ≤ size_before 59 text → boundary 0 text ≡ None
unfolding boundary
boundary-none [] le = refl
boundary-none (c ∷ rest) le = boundary_none_by c rest (c == 59) refl (boundary-none rest) le

pub from-found : (p : List ℕ) → true ≡ is_parameter p → true ≡ is_word (codes "boundary") (before 61 p) → boundary_from p ≡ Some (parameter_value p)
from-found p parameter word = rw (sym parameter, sym word) refl

pub from-text : (p : List ℕ) → false ≡ is_parameter p → boundary_from p ≡ boundary 0 (drop (protected_size p) p)
from-text p parameter = rw (sym parameter) (boundary-skip (protected_size p) p)

from-other_by : (p : List ℕ) (v : Bool) → is_parameter p ≡ v → false ≡ is_word (codes "boundary") (before 61 p) → boundary_from p ≡ boundary (protected_size p) p
from-other_by p true is word = rw (is, sym word) refl
from-other_by p false is word = rw is refl

pub from-other : (p : List ℕ) → false ≡ is_word (codes "boundary") (before 61 p) → boundary_from p ≡ boundary 0 (drop (protected_size p) p)
from-other p word = from-other_by p (is_parameter p) refl word ∙ boundary-skip (protected_size p) p

pub value-quoted : (p : List ℕ) → true ≡ is_quoted (value_on p) → parameter_value p ≡ unquoted (drop 1 (value_on p))
unfolding parameter_value
value-quoted p quoted = rw (sym quoted) refl

pub value-plain : (p : List ℕ) → false ≡ is_quoted (value_on p) → parameter_value p ≡ trimmed (behind 61 (before 59 p))
unfolding parameter_value
value-plain p quoted = rw (sym quoted) refl

pub protected-text : (p : List ℕ) → false ≡ is_parameter p → protected_size p ≡ 0
unfolding protected_size
protected-text p parameter = rw (sym parameter) refl

protected-plain_by : (p : List ℕ) (v : Bool) → is_parameter p ≡ v → false ≡ is_quoted (value_on p) → protected_size p ≡ 0
unfolding protected_size
protected-plain_by p true is quoted = rw (is, sym quoted) refl
protected-plain_by p false is quoted = rw is refl

pub protected-plain : (p : List ℕ) → false ≡ is_quoted (value_on p) → protected_size p ≡ 0
protected-plain p quoted = protected-plain_by p (is_parameter p) refl quoted

pub protected-quoted : (p : List ℕ) → true ≡ is_parameter p → true ≡ is_quoted (value_on p) → protected_size p ≡ length p - length (drop (quoted_size (drop 1 (value_on p))) (drop 1 (value_on p)))
unfolding protected_size
protected-quoted p parameter quoted = rw (sym parameter, sym quoted) refl
