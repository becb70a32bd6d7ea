-- Where the first line stands that begins with a front, by the search of memchr.
use Rattle.std.proofs.Common.{◌≡◌, ℕ, zero, suc, ◌+◌, ◌-◌, ◌==◌, Bool, true, false, ◌&&◌, nat_eq, List, [], ◌∷◌, ◌++◌, length, take, drop, slice_index, refl, sym, ap, subst, ◌∙◌, arith, length-append, length-drop}
use Rattle.std.proofs.lemmas.Bool.{and_parts, and_from, eqb-true, eq-eqb}
use Rattle.std.proofs.lemmas.Bool.Decides.{Decides-eqb}
use Rattle.std.proofs.lemmas.Slice.Eq.{starts_is, bytes_eq-Decides}
use Rattle.std.proofs.lemmas.List.{take_all}
use Rattle.std.specs.List.{starts_with}
use Rattle.memchr.specs.Find.{OccursAt, Nowhere, NoneBefore}
use Rattle.memchr.proofs.lemmas.MatchLemmas.{OccursAt-split, OccursAt-from_part}
use Rattle.mime_envelope.specs.Parts.{later_line, line_from}

pub begun : (s p : List ℕ) → starts_with nat_eq s p ≡ true → s ≡ p ++ drop (length p) s
begun s p h = (starts_is Decides-eqb s p (starts_with nat_eq s p) refl).0 h

pub begins : (s p rest : List ℕ) → s ≡ p ++ rest → starts_with nat_eq s p ≡ true
begins s p rest e = (starts_is Decides-eqb s p (starts_with nat_eq s p) refl).1 rest e

-- the test at a byte, and the needle there
abbrev is_here : List ℕ → ℕ → List ℕ → Bool
is_here front c rest = c == 10 && starts_with nat_eq rest front

stands : (front rest : List ℕ) (c : ℕ) → is_here front c rest ≡ true → OccursAt (c ∷ rest) (10 ∷ front) 0
stands front rest c h =
    let both = and_parts (c == 10) (starts_with nat_eq rest front) h in
    let feed : c ≡ 10 = eqb-true c 10 both.0 in
    let same : front ≡ take (length front) rest = (bytes_eq-Decides front (take (length front) rest)).0 both.1 in
    let size : length rest ≡ length (front ++ drop (length front) rest) = ap length (begun rest front both.1) in
    OccursAt-from_part (c ∷ rest) (10 ∷ front) 0 (omega (arith, size, length-append front (drop (length front) rest))) (λ i. feed i ∷ sym same i)

head_is : (c d : ℕ) (xs ys : List ℕ) → c ∷ xs ≡ d ∷ ys → (c ≡ d) × (xs ≡ ys)
head_is c d xs ys e = (cc e, cc e)

tested : (front rest : List ℕ) (c : ℕ) → OccursAt (c ∷ rest) (10 ∷ front) 0 → is_here front c rest ≡ true
tested front rest c h =
    let parts = head_is c 10 rest (front ++ drop (0 + suc (length front)) (c ∷ rest)) (OccursAt-split (c ∷ rest) (10 ∷ front) 0 h) in
    and_from (c == 10) (starts_with nat_eq rest front) (eq-eqb c 10 parts.0) (begins rest front _ parts.1)

shifted : (rest : List ℕ) (c k j : ℕ) → slice_index (c ∷ rest) (suc k + j) ≡ slice_index rest (k + j)
shifted rest c k j = let one : suc k + j ≡ suc (k + j) = omega arith in ap (slice_index (c ∷ rest)) one

later : (needle rest : List ℕ) (c k : ℕ) → OccursAt rest needle k → OccursAt (c ∷ rest) needle (suc k)
later needle rest c k h = record { fits = omega (arith, h.fits); reads = λ j l. shifted rest c k j ∙ h.reads j l }

sooner : (needle rest : List ℕ) (c k : ℕ) → OccursAt (c ∷ rest) needle (suc k) → OccursAt rest needle k
sooner needle rest c k h = record { fits = omega (arith, h.fits); reads = λ j l. sym (shifted rest c k j) ∙ h.reads j l }

none_by : (front rest : List ℕ) (c : ℕ) (v : Bool) → is_here front c rest ≡ v → Nowhere (OccursAt (c ∷ rest) (10 ∷ front)) 0 (suc (length rest + 1)) → later_line front rest ≡ [] → later_line front (c ∷ rest) ≡ []
unfolding later_line
none_by front rest c true e h ih = absurd (h 0 (omega arith) (omega arith) (stands front rest c e))
none_by front rest c false e h ih = rw e ih

-- the needle stands nowhere
pub no_line : (front hay : List ℕ) → Nowhere (OccursAt hay (10 ∷ front)) 0 (length hay + 1) → later_line front hay ≡ []
unfolding later_line
no_line front [] h = refl
no_line front (c ∷ rest) h = none_by front rest c (is_here front c rest) refl (λ k low high. h k low (omega (arith, high))) (no_line front rest (λ k low high occurs. h (suc k) (omega arith) (omega (arith, high)) (later (10 ∷ front) rest c k occurs)))

missed_by : (front rest : List ℕ) (c at : ℕ) (v : Bool) → is_here front c rest ≡ v → ¬ OccursAt (c ∷ rest) (10 ∷ front) 0 → later_line front rest ≡ drop (at + 1) rest → later_line front (c ∷ rest) ≡ drop (suc at + 1) (c ∷ rest)
unfolding later_line
missed_by front rest c at true e h ih = absurd (h (stands front rest c e))
missed_by front rest c at false e h ih = let one : suc at + 1 ≡ suc (at + 1) = omega arith in rw (e, one) ih

here : (front rest : List ℕ) (c : ℕ) → is_here front c rest ≡ true → later_line front (c ∷ rest) ≡ rest
unfolding later_line
here front rest c e = rw e refl

-- the needle stands first here
pub next_line : (front hay : List ℕ) (at : ℕ) → OccursAt hay (10 ∷ front) at → Nowhere (OccursAt hay (10 ∷ front)) 0 at → later_line front hay ≡ drop (at + 1) hay
next_line front [] at occurs before = absurd (omega (arith, occurs.fits))
next_line front (c ∷ rest) zero occurs before = here front rest c (tested front rest c occurs)
next_line front (c ∷ rest) (suc at) occurs before = missed_by front rest c at (is_here front c rest) refl (before 0 (omega arith) (omega arith)) (next_line front rest at (sooner (10 ∷ front) rest c at occurs) (λ k low high o. before (suc k) (omega arith) (omega (arith, high)) (later (10 ∷ front) rest c k o)))

-- ---- what the search answers

line_later : (front needle tail lines next : List ℕ) → needle ≡ 10 ∷ front → tail ≡ drop 1 needle → false ≡ starts_with nat_eq lines tail → next ≡ later_line front lines → next ≡ line_from front lines
line_later front needle tail lines next is back none later =
    let same : tail ≡ front = back ∙ ap (drop 1) is in
    let other : starts_with nat_eq lines front ≡ false = ap (starts_with nat_eq lines) (sym same) ∙ sym none in
    rw other later

pub found_line : (front needle tail lines : List ℕ) (at : ℕ) → needle ≡ 10 ∷ front → tail ≡ drop 1 needle → false ≡ starts_with nat_eq lines tail → NoneBefore (OccursAt lines needle) 0 (length lines + 1) at × OccursAt lines needle at → take (length lines - (at + 1)) (drop (at + 1) lines) ≡ line_from front lines
found_line front needle tail lines at is back none found =
    let found_there = subst (λ (z : List ℕ). NoneBefore (OccursAt lines z) 0 (length lines + 1) at × OccursAt lines z at) is found in
    line_later front needle tail lines (take (length lines - (at + 1)) (drop (at + 1) lines)) is back none
    (take_all (length lines - (at + 1)) (drop (at + 1) lines) (omega (arith, length-drop (at + 1) lines)) ∙ sym (next_line front lines at found_there.1 found_there.0.before))

pub missing_line : (front needle tail lines : List ℕ) → needle ≡ 10 ∷ front → tail ≡ drop 1 needle → false ≡ starts_with nat_eq lines tail → Nowhere (OccursAt lines needle) 0 (length lines + 1) → [] ≡ line_from front lines
missing_line front needle tail lines is back none nowhere =
    line_later front needle tail lines [] is back none (sym (no_line front lines (subst (λ (z : List ℕ). Nowhere (OccursAt lines z) 0 (length lines + 1)) is nowhere)))
