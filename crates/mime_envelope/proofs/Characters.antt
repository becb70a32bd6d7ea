-- A loop over a body's bytes.
use Rattle.std.proofs.Common.{◌≡◌, ℕ, ◌+◌, ◌<◌, ◌≤◌, get_or, true, false, ◌||◌, List, [], ◌∷◌, length, drop, Option, Some, None, refl, ap, ◌∙◌, arith}
use Rattle.std.proofs.lemmas.Bool.{and_parts}
use Rattle.std.proofs.lemmas.List.{drop_more, drop_all}
use Rattle.std.specs.List.{list_all}
use Rattle.carrier_model.specs.Reasons.{BAD_BASE64}
use Rattle.carrier_model.specs.Trail.{Fault}
use Rattle.mail_model.specs.Envelope.{bad_character, is_skipped, is_character}

skips : (at c : ℕ) (rest : List ℕ) → is_skipped c ≡ true → bad_character at (c ∷ rest) ≡ bad_character (at + 1) rest
unfolding bad_character
skips at c rest e = rw e refl

passes : (at c : ℕ) (rest : List ℕ) → is_skipped c ≡ false → is_character c ≡ true → bad_character at (c ∷ rest) ≡ bad_character (at + 1) rest
unfolding bad_character
passes at c rest e f = rw (e, f) refl

-- a byte that is either
either : (at c : ℕ) (rest : List ℕ) → (is_skipped c || is_character c) ≡ true → bad_character at (c ∷ rest) ≡ bad_character (at + 1) rest
unfolding bad_character
either at c rest e = rw e refl

nothing : (at : ℕ) → bad_character at [] ≡ None
unfolding bad_character
nothing at = refl

-- a body of such bytes alone
pub all_either : (at : ℕ) (body : List ℕ) → list_all (λ c. is_skipped c || is_character c) body ≡ true → bad_character at body ≡ None
all_either at [] all = nothing at
all_either at (c ∷ rest) all =
    let both = and_parts (is_skipped c || is_character c) (list_all (λ c. is_skipped c || is_character c) rest) all in
    either at c rest both.0 ∙ all_either (at + 1) rest both.1

stops : (at c : ℕ) (rest : List ℕ) → is_skipped c ≡ false → is_character c ≡ false → bad_character at (c ∷ rest) ≡ Some (BAD_BASE64, at)
unfolding bad_character
stops at c rest e f = rw (e, f) refl

pub bad_skip : (at i : ℕ) (body : List ℕ) (x : Option Fault) → i < length body → x ≡ bad_character (at + i) (drop i body) → is_skipped (get_or body i 0) ≡ true → x ≡ bad_character (at + (i + 1)) (drop (i + 1) body)
bad_skip at i body x lt inv e =
    let next : at + i + 1 ≡ at + (i + 1) = omega arith in
    inv ∙ ap (bad_character (at + i)) (drop_more body i 0 lt) ∙ skips (at + i) (get_or body i 0) (drop (i + 1) body) e ∙ ap (λ (n : ℕ). bad_character n (drop (i + 1) body)) next

pub bad_pass : (at i : ℕ) (body : List ℕ) (x : Option Fault) → i < length body → x ≡ bad_character (at + i) (drop i body) → is_skipped (get_or body i 0) ≡ false → is_character (get_or body i 0) ≡ true → x ≡ bad_character (at + (i + 1)) (drop (i + 1) body)
bad_pass at i body x lt inv e f =
    let next : at + i + 1 ≡ at + (i + 1) = omega arith in
    inv ∙ ap (bad_character (at + i)) (drop_more body i 0 lt) ∙ passes (at + i) (get_or body i 0) (drop (i + 1) body) e f ∙ ap (λ (n : ℕ). bad_character n (drop (i + 1) body)) next

pub bad_here : (at i : ℕ) (body : List ℕ) (x : Option Fault) → i < length body → x ≡ bad_character (at + i) (drop i body) → is_skipped (get_or body i 0) ≡ false → is_character (get_or body i 0) ≡ false → x ≡ Some (BAD_BASE64, at + i)
bad_here at i body x lt inv e f = inv ∙ ap (bad_character (at + i)) (drop_more body i 0 lt) ∙ stops (at + i) (get_or body i 0) (drop (i + 1) body) e f

pub bad_none : (at i : ℕ) (body : List ℕ) (x : Option Fault) → length body ≤ i → x ≡ bad_character (at + i) (drop i body) → x ≡ None
bad_none at i body x le inv = inv ∙ ap (bad_character (at + i)) (drop_all i body le) ∙ nothing (at + i)
