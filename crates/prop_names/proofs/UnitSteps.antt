-- Units that are set one after another.
use Rattle.std.proofs.Common.{◌≡◌, ℕ, suc, ◌+◌, ◌-◌, ◌*◌, ◌/◌, ◌<◌, ◌≤◌, List, [], ◌∷◌, ◌++◌, length, get_or, set, take, replicate, sym, ap, ◌∙◌, append_assoc, arith}
use Rattle.std.proofs.lemmas.List.{append-nil, length-take-le}
use Rattle.std.proofs.Math.Seq.{set-append_seam}
use Rattle.carrier_model.specs.Bytes.{units_of}
use Rattle.carrier_model.proofs.Units.{units_front, units_halve, units_whole}

-- one more unit
pub unit_set : (x list : List ℕ) (k u : ℕ) → list ≡ units_of (take (2 * k) x) ++ replicate (length x / 2 - k) 0 → k < length x / 2 → u ≡ get_or x (2 * k) 0 + 256 * get_or x (2 * k + 1) 0 → set list k u ≡ units_of (take (2 * (k + 1)) x) ++ replicate (length x / 2 - (k + 1)) 0
unit_set x list k u is lt e =
    let front = units_of (take (2 * k) x) in
    let left = replicate {A = ℕ} (length x / 2 - (k + 1)) 0 in
    let long : length front ≡ k = omega (arith, units_halve (take (2 * k) x), length-take-le (2 * k) x (omega (arith, lt))) in
    let count : length x / 2 - k ≡ suc (length x / 2 - (k + 1)) = omega (arith, lt) in
    ap (λ (l : List ℕ). set l k u) (is ∙ ap (λ (n : ℕ). front ++ replicate n 0) count)
    ∙ ap (λ (n : ℕ). set (front ++ 0 ∷ left) n u) (sym long)
    ∙ set-append_seam front 0 left u
    ∙ sym (append_assoc front (u ∷ []) left)
    ∙ ap (λ (l : List ℕ). l ++ left) (ap (λ (v : ℕ). front ++ v ∷ []) e ∙ sym (units_front x k (omega (arith, lt))))

-- all of them
pub units_set : (x list : List ℕ) (k : ℕ) → list ≡ units_of (take (2 * k) x) ++ replicate (length x / 2 - k) 0 → length x / 2 ≤ k → list ≡ units_of x
units_set x list k is le =
    let none : length x / 2 - k ≡ 0 = omega (arith, le) in
    is ∙ ap (λ (n : ℕ). units_of (take (2 * k) x) ++ replicate n 0) none ∙ append-nil (units_of (take (2 * k) x)) ∙ units_whole x k le
