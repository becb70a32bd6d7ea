-- The links of siblings, half by half.
use Rattle.std.proofs.Common.{◌≡◌, ℕ, zero, suc, ◌+◌, ◌-◌, ◌<◌, ◌≤◌, List, [], ◌∷◌, ◌++◌, length, take, drop, refl, sym, ap, ◌∙◌, append_assoc, arith}
use Rattle.std.specs.Prelude.{Result, OnOk, Ok, Err}
use Rattle.std.proofs.lemmas.List.{length-take-le, length-drop}
use Rattle.carrier_model.specs.Layout.{middle, top_of, side_links, links_of_siblings}

half : (n k : ℕ) (ns : List ℕ) → middle (n ∷ ns) < length (n ∷ ns)
half n k ns = omega arith

enough : (levels more : ℕ) (ns : List ℕ) → length ns ≤ levels → length ns ≤ more → side_links levels ns ≡ side_links more ns
enough zero zero ns a b = refl
enough zero (suc more) [] a b = refl
enough zero (suc more) (n ∷ ns) a b = absurd (omega (arith, a))
enough (suc levels) zero [] a b = refl
enough (suc levels) zero (n ∷ ns) a b = absurd (omega (arith, b))
enough (suc levels) (suc more) [] a b = refl
enough (suc levels) (suc more) (n ∷ ns) a b =
    let all = n ∷ ns in
    let lt = half n 0 ns in
    let before : length (take (middle all) all) ≡ middle all = length-take-le (middle all) all (omega (arith, lt)) in
    let behind : length (drop (middle all + 1) all) ≡ length all - (middle all + 1) = length-drop (middle all + 1) all in
    ap (λ (x : List (ℕ × ℕ)). x ++ ((top_of (take (middle all) all), top_of (drop (middle all + 1) all)) ∷ side_links levels (drop (middle all + 1) all))) (enough levels more (take (middle all) all) (omega (arith, before, lt, a)) (omega (arith, before, lt, b)))
    ∙ ap (λ (x : List (ℕ × ℕ)). side_links more (take (middle all) all) ++ ((top_of (take (middle all) all), top_of (drop (middle all + 1) all)) ∷ x)) (enough levels more (drop (middle all + 1) all) (omega (arith, behind, lt, a)) (omega (arith, behind, lt, b)))

-- the middle one stands between the links of those before it and those behind it
pub links_are : (ns : List ℕ) → 0 < length ns → links_of_siblings ns ≡ links_of_siblings (take (middle ns) ns) ++ ((top_of (take (middle ns) ns), top_of (drop (middle ns + 1) ns)) ∷ links_of_siblings (drop (middle ns + 1) ns))
links_are [] some = absurd (omega (arith, some))
links_are (n ∷ ns) some =
    let all = n ∷ ns in
    let lt = half n 0 ns in
    let before : length (take (middle all) all) ≡ middle all = length-take-le (middle all) all (omega (arith, lt)) in
    let behind : length (drop (middle all + 1) all) ≡ length all - (middle all + 1) = length-drop (middle all + 1) all in
    ap (λ (x : List (ℕ × ℕ)). x ++ ((top_of (take (middle all) all), top_of (drop (middle all + 1) all)) ∷ side_links (length ns) (drop (middle all + 1) all))) (enough (length ns) (length (take (middle all) all)) (take (middle all) all) (omega (arith, before, lt)) (omega (arith, before)))
    ∙ ap (λ (x : List (ℕ × ℕ)). links_of_siblings (take (middle all) all) ++ ((top_of (take (middle all) all), top_of (drop (middle all + 1) all)) ∷ x)) (enough (length ns) (length (drop (middle all + 1) all)) (drop (middle all + 1) all) (omega (arith, behind, lt)) (omega (arith, behind)))

-- what is appended in three steps
pub three_steps : (old : List (ℕ × ℕ)) (ns : List ℕ) (a b c : List (ℕ × ℕ)) → 0 < length ns → a ≡ old ++ links_of_siblings (take (middle ns) ns) → b ≡ a ++ (top_of (take (middle ns) ns), top_of (drop (middle ns + 1) ns)) ∷ [] → c ≡ b ++ links_of_siblings (drop (middle ns + 1) ns) → c ≡ old ++ links_of_siblings ns
three_steps old ns a b c some p q r =
    let one : ℕ × ℕ = (top_of (take (middle ns) ns), top_of (drop (middle ns + 1) ns)) in
    let left = links_of_siblings (take (middle ns) ns) in
    let right = links_of_siblings (drop (middle ns + 1) ns) in
    r ∙ ap (λ (x : List (ℕ × ℕ)). x ++ right) (q ∙ ap (λ (x : List (ℕ × ℕ)). x ++ one ∷ []) p)
    ∙ append_assoc (old ++ left) (one ∷ []) right ∙ append_assoc old left (one ∷ right)
    ∙ ap (λ (x : List (ℕ × ℕ)). old ++ x) (sym (links_are ns some))

pub on_ok : {T E : Type 0} {P Q : Type 0} (r : Result T E) → (P → Q) → OnOk r P → OnOk r Q
on_ok (Ok x) f h = f h
on_ok (Err e) f h = tt
