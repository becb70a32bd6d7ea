-- Numbers divided and rounded up.
use Rattle.std.proofs.Common.{◌≡◌, ℕ, ◌+◌, ◌-◌, ◌*◌, ◌/◌, ◌%◌, ◌<◌, sym, ap, ◌∙◌, arith}
use Rattle.std.specs.Prelude.{min}
use Rattle.std.specs.Int.{div_ceil}
use Rattle.std.proofs.Math.Nat.{mul-add-div_right, mul-add-mod_self_right, add-mul}
use Rattle.std.proofs.lemmas.Nat.{div-add-mod'}

-- what is left of a goes with b
pub ceil_past : (a b s : ℕ) → 0 < s → a / s + div_ceil (a % s + b) s ≡ div_ceil (a + b) s
ceil_past a b s some =
    let whole : a + b ≡ a / s * s + (a % s + b) = omega (arith, div-add-mod' a s) in
    let quotient : (a + b) / s ≡ a / s + (a % s + b) / s = ap (λ (n : ℕ). n / s) whole ∙ mul-add-div_right some (a / s) (a % s + b) in
    let rest : (a + b) % s ≡ (a % s + b) % s = ap (λ (n : ℕ). n % s) whole ∙ mul-add-mod_self_right (a / s) s (a % s + b) in
    let m : min 1 ((a + b) % s) ≡ min 1 ((a % s + b) % s) = ap (min 1) rest in
    omega (arith, quotient, m)

pub rest_past : (a b s : ℕ) → (a % s + b) % s ≡ (a + b) % s
rest_past a b s =
    let whole : a + b ≡ a / s * s + (a % s + b) = omega (arith, div-add-mod' a s) in
    sym (ap (λ (n : ℕ). n % s) whole ∙ mul-add-mod_self_right (a / s) s (a % s + b))

-- what is missing to whole pieces
pub missing_none : (n s : ℕ) → n % s ≡ 0 → 0 ≡ div_ceil n s * s - n
missing_none n s h =
    let e : div_ceil n s ≡ n / s = omega (arith, h) in
    let f : n / s * s - n ≡ 0 = omega (arith, div-add-mod' n s) in
    sym (ap (λ (k : ℕ). k * s - n) e ∙ f)

pub missing_some : (n s : ℕ) → 0 < n % s → s - n % s ≡ div_ceil n s * s - n
missing_some n s h =
    let e : div_ceil n s ≡ n / s + 1 = omega (arith, h) in
    let f : (n / s + 1) * s - n ≡ s - n % s = omega (arith, div-add-mod' n s, add-mul (n / s) 1 s) in
    sym (ap (λ (k : ℕ). k * s - n) e ∙ f)
