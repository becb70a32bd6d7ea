-- Where a byte is found, by the search of memchr.
use Rattle.std.proofs.Common.{◌≡◌, ℕ, ◌==◌, Bool, not, List, length, get_or, Some, None, true, false, refl, sym, ap, arith}
use Rattle.std.proofs.lemmas.List.Sums.{prefix_len_is}
use Rattle.memchr.specs.Find.{IsFirstByte, is_byte}
use Rattle.mail_model.specs.Lines.{size_before}

other : (b : Bool) → ¬ (b ≡ true) → not b ≡ true
other true isnt = absurd (isnt refl)
other false isnt = refl

pub found : (c at : ℕ) (hay : List ℕ) → IsFirstByte (is_byte c) hay (Some at) → at ≡ size_before c hay
unfolding size_before
found c at hay h = sym (prefix_len_is (λ b. not (b == c)) hay at 0 (omega (arith, h.0.high)) (λ k below. other (get_or hay k 0 == c) (h.0.before k (omega arith) below)) (λ _. ap not h.1))

pub not_found : (c : ℕ) (hay : List ℕ) → IsFirstByte (is_byte c) hay None → length hay ≡ size_before c hay
unfolding size_before
not_found c hay h = sym (prefix_len_is (λ b. not (b == c)) hay (length hay) 0 (omega arith) (λ k below. other (get_or hay k 0 == c) (h k (omega arith) below)) (λ l. absurd (omega (arith, l))))
