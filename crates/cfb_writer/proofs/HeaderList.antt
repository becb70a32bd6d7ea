-- The list of sectors in the header.
use Rattle.std.proofs.Common.{◌≡◌, ℕ, ◌-◌, ◌++◌, [], List, ap, ◌∙◌, arith}
use Rattle.std.specs.Prelude.{min, replicate}
use Rattle.std.specs.List.{range_with_len}
use Rattle.std.proofs.lemmas.List.{append-nil}
use Rattle.carrier_model.specs.Layout.{FREE, words_bytes}

pub list_is : (fat listed : ℕ) → listed ≡ min fat 109 → words_bytes (range_with_len 0 listed ++ (replicate (109 - listed) FREE ++ [])) ≡ words_bytes (range_with_len 0 (min 109 fat) ++ replicate (109 - fat) FREE)
list_is fat listed e =
    let rest : 109 - listed ≡ 109 - fat = omega (arith, e) in
    let same : listed ≡ min 109 fat = omega (arith, e) in
    ap (λ (x : List ℕ). words_bytes (range_with_len 0 listed ++ x)) (append-nil (replicate (109 - listed) FREE))
    ∙ ap (λ (n : ℕ). words_bytes (range_with_len 0 listed ++ replicate n FREE)) rest
    ∙ ap (λ (n : ℕ). words_bytes (range_with_len 0 n ++ replicate (109 - fat) FREE)) same
