-- The words of runs, one after the other.
use Rattle.std.proofs.Common.{◌≡◌, ℕ, zero, suc, ◌+◌, ◌-◌, ◌<◌, [], ◌∷◌, refl, sym, ap, ◌∙◌, arith}
use Rattle.std.specs.Prelude.{replicate, ◌==◌, if◌then◌else◌, cond, Bool, false}
use Rattle.std.specs.List.{range_with_len}
use Rattle.carrier_model.specs.Chains.{end_word}
use Rattle.carrier_model.specs.Layout.{run_words}
use Rattle.cfb_writer.specs.Runs.{words_of, words_from, word_at}
use Rattle.cfb_writer.specs.declared.runs.Run.{Run}
use Rattle.cfb_writer.specs.declared.runs.Run.TheVariants.{Same, Chain, Numbers}

chain_then : (first n : ℕ) → run_words first (suc n) ≡ (if n == 0 then end_word else first + 1) ∷ run_words (first + 1) n
chain_then first zero = refl
chain_then first (suc n) = let e : (suc n == 0) ≡ false = grind arith in ap (λ (b : Bool). cond b end_word (first + 1) ∷ run_words (first + 1) (suc n)) (sym e)

one_more : (run : Run) (count k left : ℕ) → count ≡ k + suc left → words_from run count k ≡ word_at run count k ∷ words_from run count (k + 1)
one_more (Same word) count k left e =
    let here : count - k ≡ suc left = omega (arith, e) in
    let there : count - (k + 1) ≡ left = omega (arith, e) in
    rw (here, there) refl
one_more (Chain first) count k left e =
    let here : count - k ≡ suc left = omega (arith, e) in
    let there : count - (k + 1) ≡ left = omega (arith, e) in
    let last : (k + 1 == count) ≡ (left == 0) = grind (arith, e) in
    let next : first + (k + 1) ≡ first + k + 1 = omega arith in
    rw (here, there, last, next) (chain_then (first + k) left)
one_more (Numbers first) count k left e =
    let here : count - k ≡ suc left = omega (arith, e) in
    let there : count - (k + 1) ≡ left = omega (arith, e) in
    let next : first + (k + 1) ≡ first + k + 1 = omega arith in
    rw (here, there, next) refl

pub words_then : (run : Run) (count k : ℕ) → k < count → words_from run count k ≡ word_at run count k ∷ words_from run count (k + 1)
words_then run count k lt = one_more run count k (count - k - 1) (omega (arith, lt))

pub words_start : (run : Run) (count : ℕ) → words_from run count 0 ≡ words_of run count
words_start (Same word) count = ap (λ (n : ℕ). replicate {A = ℕ} n word) (omega arith)
words_start (Chain first) count = ap (λ (n : ℕ). run_words n (count - 0)) (omega arith) ∙ ap (run_words first) (omega arith)
words_start (Numbers first) count = ap (λ (n : ℕ). range_with_len n (count - 0)) (omega arith) ∙ ap (range_with_len first) (omega arith)

pub words_end : (run : Run) (count : ℕ) → words_from run count count ≡ []
words_end (Same word) count = let none : count - count ≡ 0 = omega arith in rw none refl
words_end (Chain first) count = let none : count - count ≡ 0 = omega arith in rw none refl
words_end (Numbers first) count = let none : count - count ≡ 0 = omega arith in rw none refl
