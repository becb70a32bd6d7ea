-- Names one after another.
use Rattle.std.proofs.Common.{◌≡◌, ℕ, ◌+◌, ◌≤◌, List, [], ◌∷◌, ◌++◌, length, map, take, drop, refl, sym, ◌∙◌, ap, arith}
use Rattle.std.specs.List.{All}
use Rattle.std.proofs.lemmas.List.{length-drop, take-append-le, drop-append-le, map-append, take_all, drop_at}
use Rattle.std.proofs.lemmas.List.Elements.{All-head, All-tail}
use Rattle.cfb_directory.specs.Spelled.{units_in}
use Rattle.cfb_directory.specs.declared.spelled.Span.{Span}

abbrev pub Within : List ℕ → Span → Type 0
Within units s = s.start + s.len ≤ length units

unit-same : (units more : List ℕ) (s : Span) → Within units s → units_in (units ++ more) s ≡ units_in units s
unit-same units more s h =
    let room : s.len ≤ length (drop s.start units) = rw (length-drop s.start units) (omega (arith, h)) in
    ap (take s.len) (drop-append-le s.start units more (omega (arith, h))) ∙ take-append-le s.len (drop s.start units) more room

-- more units behind them change no name
names-same : (units more : List ℕ) (spans : List Span) → All (Within units) spans → map (units_in (units ++ more)) spans ≡ map (units_in units) spans
names-same units more [] h = refl
names-same units more (s ∷ spans) h = rw (unit-same units more s (All-head (Within units) s spans h), names-same units more spans (All-tail (Within units) s spans h)) refl

pub names_more : (units name : List ℕ) (spans : List Span) (start : ℕ) → start ≡ length units → All (Within units) spans → map (units_in (units ++ name)) (spans ++ record { start = start; len = length name } ∷ []) ≡ map (units_in units) spans ++ name ∷ []
names_more units name spans start is h =
    map-append (units_in (units ++ name)) spans (record { start = start; len = length name } ∷ [])
    ∙ rw (names-same units name spans h, drop_at units name start (sym is), take_all (length name) name (omega arith)) refl
