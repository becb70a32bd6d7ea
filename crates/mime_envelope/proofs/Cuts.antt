-- Lines of a multipart that are passed over, none of which ends a part.
use Rattle.std.proofs.Common.{◌≡◌, ℕ, zero, suc, ◌+◌, ◌-◌, ◌≤◌, ◌==◌, min, Bool, true, false, nat_eq, List, [], ◌∷◌, ◌++◌, length, take, drop, codes, refl, sym, ap, subst, ◌∙◌, append_assoc, arith, length-append, length-drop, le_refl}
use Rattle.std.proofs.lemmas.List.{append-nil, take_at, drop_at, take-append-drop}
use Rattle.std.proofs.lemmas.List.Folds.{concat-append}
use Rattle.std.specs.List.{concat, list_any, starts_with, AllByRecursion}
use Rattle.mail_model.specs.Lines.{lines, text_of, is_mark, size_before, end_size}
use Rattle.mail_model.specs.Entities.{part_from, parts, is_closing, is_delimiter}
use Rattle.mail_model.proofs.Lines.{lines-split, concat-lines}
use Rattle.mail_model.proofs.Entities.{part_from-none}
use Rattle.mime_envelope.specs.Parts.{delimiter_front, later_line, line_from, NoPartBefore}
use Rattle.mime_envelope.proofs.Fronts.{begun, begins}

abbrev pub IsOther : List ℕ → List ℕ → Type 0
IsOther b line = (false ≡ is_closing b line) × (false ≡ is_delimiter b line)

abbrev pub AreOther : List ℕ → List (List ℕ) → Type 0
AreOther b over = AllByRecursion (IsOther b) over

-- these lines were passed over, and the others are to come
pub record Passed (b bytes rest : List ℕ) : Type 0 where
  pub over : List (List ℕ)
  pub split : lines bytes ≡ over ++ lines rest
  pub other : AreOther b over

pub passed_none : (b bytes : List ℕ) → Passed b bytes bytes
passed_none b bytes = record { over = []; split = refl; other = tt }

other_append : (b : List ℕ) (xs ys : List (List ℕ)) → AreOther b xs → AreOther b ys → AreOther b (xs ++ ys)
other_append b [] ys none more = more
other_append b (x ∷ xs) ys all more = (all.0, other_append b xs ys all.1 more)

pub passed_then : (b bytes rest after : List ℕ) → Passed b bytes rest → Passed b rest after → Passed b bytes after
passed_then b bytes rest after p q = record {
  over = p.over ++ q.over;
  split = p.split ∙ ap (λ (z : List (List ℕ)). p.over ++ z) q.split ∙ sym (append_assoc p.over q.over (lines after));
  other = other_append b p.over q.over p.other q.other;
}

pub passed_line : (b rest line after : List ℕ) → lines rest ≡ line ∷ lines after → false ≡ is_closing b line → false ≡ is_delimiter b line → Passed b rest after
passed_line b rest line after is closing delimiter = record { over = line ∷ []; split = is; other = ((closing, delimiter), tt) }

-- ---- what they are of

pub passed_bytes : (b bytes rest : List ℕ) (p : Passed b bytes rest) → bytes ≡ concat p.over ++ rest
passed_bytes b bytes rest p =
    sym (concat-lines bytes) ∙ ap concat p.split ∙ concat-append p.over (lines rest) ∙ ap (λ (z : List ℕ). concat p.over ++ z) (concat-lines rest)

pub passed_within : (b bytes rest : List ℕ) → Passed b bytes rest → length rest ≤ length bytes
passed_within b bytes rest p = omega (arith, ap length (passed_bytes b bytes rest p), length-append (concat p.over) rest)

over_closing : (b : List ℕ) (over others : List (List ℕ)) → AreOther b over → list_any (is_closing b) (over ++ others) ≡ list_any (is_closing b) others
over_closing b [] others all = refl
over_closing b (line ∷ over) others all = rw (sym all.0.0) (over_closing b over others all.1)

pub passed_closing : (b bytes rest : List ℕ) → Passed b bytes rest → list_any (is_closing b) (lines bytes) ≡ list_any (is_closing b) (lines rest)
passed_closing b bytes rest p = ap (list_any (is_closing b)) p.split ∙ over_closing b p.over (lines rest) p.other

over_part : (b : List ℕ) (over others : List (List ℕ)) → AreOther b over → concat (part_from b (over ++ others)) ≡ concat over ++ concat (part_from b others)
unfolding part_from
over_part b [] others all = refl
over_part b (line ∷ over) others all = rw (sym all.0.0, sym all.0.1) (ap (λ (z : List ℕ). line ++ z) (over_part b over others all.1) ∙ sym (append_assoc line (concat over) (concat (part_from b others))))

over_parts : (b : List ℕ) (at : ℕ) (over others : List (List ℕ)) → AreOther b over → parts b at (over ++ others) ≡ parts b (at + length (concat over)) others
unfolding parts
over_parts b at [] others all = let same : at ≡ at + 0 = omega arith in ap (λ (n : ℕ). parts b n others) same
over_parts b at (line ∷ over) others all =
    let sum : at + length line + length (concat over) ≡ at + length (line ++ concat over) = omega (arith, length-append line (concat over)) in
    rw (sym all.0.0, sym all.0.1) (over_parts b (at + length line) over others all.1 ∙ ap (λ (n : ℕ). parts b n others) sum)

-- a part ends here
pub part_end : (b bytes rest : List ℕ) → Passed b bytes rest → concat (part_from b (lines rest)) ≡ [] → take (length bytes - length rest) bytes ≡ concat (part_from b (lines bytes))
part_end b bytes rest p none =
    let is = passed_bytes b bytes rest p in
    let size : length (concat p.over) ≡ length bytes - length rest = omega (arith, ap length is, length-append (concat p.over) rest) in
    ap (λ (n : ℕ). take n bytes) (sym size)
    ∙ ap (λ (z : List ℕ). take (length (concat p.over)) z) is
    ∙ take_at (concat p.over) rest (length (concat p.over)) refl
    ∙ sym (ap (λ (z : List (List ℕ)). concat (part_from b z)) p.split ∙ over_part b p.over (lines rest) p.other ∙ ap (λ (z : List ℕ). concat p.over ++ z) none ∙ append-nil (concat p.over))

pub part_whole : (b bytes rest : List ℕ) → Passed b bytes rest → rest ≡ [] → take (length bytes) bytes ≡ concat (part_from b (lines bytes))
part_whole b bytes rest p none =
    let size : length bytes ≡ length bytes - length rest = omega (arith, ap length none) in
    ap (λ (n : ℕ). take n bytes) size ∙ part_end b bytes rest p (part_from-none b rest none)

-- the parts are those of what stands behind
pub parts_end : (b bytes rest : List ℕ) → Passed b bytes rest → NoPartBefore b (length bytes - length rest) bytes
parts_end b bytes rest p at =
    let is = passed_bytes b bytes rest p in
    let size : length (concat p.over) ≡ length bytes - length rest = omega (arith, ap length is, length-append (concat p.over) rest) in
    let left : rest ≡ drop (length bytes - length rest) bytes = sym (drop_at (concat p.over) rest (length (concat p.over)) refl) ∙ (λ i. drop (size i) (sym is i)) in
    ap (parts b at) p.split ∙ over_parts b at p.over (lines rest) p.other ∙ (λ i. parts b (at + size i) (lines (left i)))

pub parts_whole : (b bytes rest : List ℕ) → Passed b bytes rest → rest ≡ [] → NoPartBefore b (length bytes) bytes
parts_whole b bytes rest p none =
    let size : length bytes - length rest ≡ length bytes = omega (arith, ap length none) in
    subst (λ (n : ℕ). NoPartBefore b n bytes) size (parts_end b bytes rest p)

-- ---- the lines up to the next one that begins as a delimiter line

mark_by : (mark line front more bytes : List ℕ) (size : ℕ) (v : Bool) → starts_with nat_eq (text_of line) mark ≡ v → mark ≡ front ++ more → line ≡ take size bytes → starts_with nat_eq bytes front ≡ false → false ≡ is_mark mark line
unfolding is_mark text_of
mark_by mark line front more bytes size false e whole is none = rw e refl
mark_by mark line front more bytes size true e whole is none =
    let n = length line - end_size line in
    let text = take n line in
    let after_mark = drop (length mark) text in
    let all : bytes ≡ ((front ++ more) ++ (after_mark ++ drop n line)) ++ drop size bytes =
    sym (take-append-drop size bytes) ∙ ap (λ (z : List ℕ). z ++ drop size bytes) (sym is ∙ sym (take-append-drop n line) ∙ ap (λ (z : List ℕ). z ++ drop n line) (begun text mark e ∙ ap (λ (z : List ℕ). z ++ after_mark) whole) ∙ append_assoc (front ++ more) after_mark (drop n line)) in
    let tail = (more ++ (after_mark ++ drop n line)) ++ drop size bytes in
    let again : bytes ≡ front ++ tail =
    all ∙ ap (λ (z : List ℕ). z ++ drop size bytes) (append_assoc front more (after_mark ++ drop n line)) ∙ append_assoc front (more ++ (after_mark ++ drop n line)) (drop size bytes) in
    absurd (cc (begins bytes front tail again, none))

-- a line that doesn't begin so
other_line : (b bytes line : List ℕ) (size : ℕ) → line ≡ take size bytes → starts_with nat_eq bytes (delimiter_front b) ≡ false → IsOther b line
unfolding delimiter_front
other_line b bytes line size is none =
    let mark = codes "--" ++ b in
    let cut : mark ≡ take 31 mark ++ drop 31 mark = sym (take-append-drop 31 mark) in
    let longer : codes "--" ++ b ++ codes "--" ≡ take 31 mark ++ (drop 31 mark ++ codes "--") = ap (λ (z : List ℕ). z ++ codes "--") cut ∙ append_assoc (take 31 mark) (drop 31 mark) (codes "--") in (
      mark_by (codes "--" ++ b ++ codes "--") line (delimiter_front b) (drop 31 mark ++ codes "--") bytes size _ refl longer is none,
      mark_by mark line (delimiter_front b) (drop 31 mark) bytes size _ refl cut is none,
    )

line_none_by : (front : List ℕ) (v : Bool) → starts_with nat_eq [] front ≡ v → line_from front [] ≡ []
unfolding later_line
line_none_by front true e = rw e refl
line_none_by front false e = rw e refl

abbrev line_size : List ℕ → ℕ
line_size bytes = min (size_before 10 bytes + 1) (length bytes)

later_by : (front rest : List ℕ) (c : ℕ) (v : Bool) → (c == 10) ≡ v → later_line front rest ≡ line_from front (drop (line_size rest) rest) → later_line front (c ∷ rest) ≡ line_from front (drop (line_size (c ∷ rest)) (c ∷ rest))
unfolding later_line size_before
later_by front rest c true e ih =
    let one : line_size (c ∷ rest) ≡ 1 = rw e (omega arith) in
    rw (one, e) refl
later_by front [] c false e ih =
    let one : line_size (c ∷ []) ≡ 1 = rw e (omega arith) in
    rw (one, e) (sym (line_none_by front (starts_with nat_eq [] front) refl))
later_by front (d ∷ rest) c false e ih =
    let more : line_size (c ∷ d ∷ rest) ≡ suc (line_size (d ∷ rest)) = rw e (omega arith) in
    let step : later_line front (c ∷ d ∷ rest) ≡ later_line front (d ∷ rest) = rw e refl in
    step ∙ ih ∙ sym (ap (λ (n : ℕ). line_from front (drop n (c ∷ d ∷ rest))) more)

-- behind the first line, lines begin
later_is : (front bytes : List ℕ) → later_line front bytes ≡ line_from front (drop (line_size bytes) bytes)
unfolding later_line size_before
later_is front [] = sym (line_none_by front (starts_with nat_eq [] front) refl)
later_is front (c ∷ rest) = later_by front rest c (c == 10) refl (later_is front rest)

next_by : (n : ℕ) (b bytes : List ℕ) → length bytes ≤ n → (v : Bool) → starts_with nat_eq bytes (delimiter_front b) ≡ v → Passed b bytes (line_from (delimiter_front b) bytes)
next_by n b bytes few true e = rw e (passed_none b bytes)
next_by n b [] few false e = subst (λ (z : List ℕ). Passed b [] z) (sym (line_none_by (delimiter_front b) _ refl)) (passed_none b [])
next_by zero b (c ∷ rest) few false e = absurd (omega (arith, few))
next_by (suc n) b (c ∷ rest) few false e =
    let bytes = c ∷ rest in
    let size = line_size bytes in
    let after = drop size bytes in
    let line = take size bytes in
    let shorter : length after ≤ n = omega (arith, few, length-drop size bytes) in
    let is = lines-split bytes line after size (omega arith) refl refl refl in
    let other = other_line b bytes line size refl e in
    let next : line_from (delimiter_front b) after ≡ line_from (delimiter_front b) bytes = rw e (sym (later_is (delimiter_front b) bytes)) in
    subst (λ (z : List ℕ). Passed b bytes z) next (passed_then b bytes after _ (passed_line b bytes line after is other.0 other.1) (next_by n b after shorter (starts_with nat_eq after (delimiter_front b)) refl))

pub passed_next : (b bytes next : List ℕ) → next ≡ line_from (delimiter_front b) bytes → Passed b bytes next
passed_next b bytes next is = subst (λ (z : List ℕ). Passed b bytes z) (sym is) (next_by (length bytes) b bytes (le_refl (length bytes)) (starts_with nat_eq bytes (delimiter_front b)) refl)
