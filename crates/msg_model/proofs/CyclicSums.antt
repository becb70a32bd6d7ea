-- Cyclic sums of two bytes at once.
use Rattle.std.proofs.Common.{◌≡◌, ℕ, zero, suc, ◌+◌, ◌*◌, ◌/◌, ◌%◌, ◌<◌, ◌==◌, if◌then◌else◌, refl, sym, ap, ◌∙◌, arith}
use Rattle.std.specs.Prelude.{bit_xor}
use Rattle.std.proofs.lemmas.Nat.{xor_comm, xor_mod, xor_shr}
use Rattle.std.specs.Int.Bits.{xor_assoc, xor_self, xor_shifted}
use Rattle.msg_model.specs.WrittenNames.{sum_bit, sum_byte}

-- a half, and what a bit that falls off adds to it
abbrev next : ℕ → ℕ → ℕ
next bit half = if bit == 0 then half else bit_xor half 0xEDB88320

-- two sums change places
swapped : (a b c : ℕ) → bit_xor (bit_xor a b) c ≡ bit_xor (bit_xor a c) b
swapped a b c = xor_assoc a b c ∙ ap (bit_xor a) (xor_comm b c) ∙ sym (xor_assoc a c b)

-- what comes twice falls out
twice : (a b c : ℕ) → bit_xor (bit_xor a c) (bit_xor b c) ≡ bit_xor a b
twice a b c = sym (xor_assoc (bit_xor a c) b c) ∙ ap (λ x. bit_xor x c) (swapped a c b) ∙ xor_assoc (bit_xor a b) c c ∙ ap (bit_xor (bit_xor a b)) (xor_self c) ∙ xor_comm (bit_xor a b) 0

next_xor : (r s h k : ℕ) → r < 2 → s < 2 → next (bit_xor r s) (bit_xor h k) ≡ bit_xor (next r h) (next s k)
next_xor zero zero h k r s = refl
next_xor zero (suc zero) h k r s = xor_assoc h k 0xEDB88320
next_xor (suc zero) zero h k r s = swapped h k 0xEDB88320
next_xor (suc zero) (suc zero) h k r s = sym (twice h k 0xEDB88320)
next_xor (suc (suc r)) s h k few _ = absurd (omega (arith, few))
next_xor zero (suc (suc s)) h k _ few = absurd (omega (arith, few))
next_xor (suc zero) (suc (suc s)) h k _ few = absurd (omega (arith, few))

bit_of_xor : (a b : ℕ) → sum_bit (bit_xor a b) ≡ bit_xor (sum_bit a) (sum_bit b)
bit_of_xor a b = (λ i. next (xor_mod a b 1 i) (xor_shr a b 1 i)) ∙ next_xor (a % 2) (b % 2) (a / 2) (b / 2) (omega arith) (omega arith)

-- eight bits
abbrev steps : ℕ → ℕ
steps c = sum_bit (sum_bit (sum_bit (sum_bit (sum_bit (sum_bit (sum_bit (sum_bit c)))))))

-- what goes through exclusive sums
abbrev IsLinear : (ℕ → ℕ) → Type 0
IsLinear f = (a b : ℕ) → f (bit_xor a b) ≡ bit_xor (f a) (f b)

doubled : (f : ℕ → ℕ) → IsLinear f → IsLinear (λ c. f (f c))
doubled f linear a b = ap f (linear a b) ∙ linear (f a) (f b)

steps_of_xor : IsLinear steps
steps_of_xor = doubled (λ c. sum_bit (sum_bit (sum_bit (sum_bit c)))) (doubled (λ c. sum_bit (sum_bit c)) (doubled sum_bit bit_of_xor))

halved : (m c : ℕ) → c ≡ m * 2 → sum_bit c ≡ m
halved m c e = (λ i. next (even i) (half i)) where
  even : c % 2 ≡ 0
  even = omega (arith, e)

  half : c / 2 ≡ m
  half = omega (arith, e)

-- bytes above the lowest move down
moved : (n : ℕ) → steps (n * 256) ≡ n
moved n =
    let down : (m c : ℕ) → c ≡ m * 2 → sum_bit c ≡ m = halved in
    down n _ (down (n * 2) _ (down (n * 4) _ (down (n * 8) _ (down (n * 16) _ (down (n * 32) _ (down (n * 64) _ (down (n * 128) (n * 256) (omega arith)
    ∙ omega arith) ∙ omega arith) ∙ omega arith) ∙ omega arith) ∙ omega arith) ∙ omega arith) ∙ omega arith)

-- the sum of a byte is that of the lowest byte, and the others move down
lowest : (c : ℕ) → steps c ≡ bit_xor (c / 256) (steps (c % 256))
lowest c =
    let parts : c ≡ bit_xor (c / 256 * 256) (c % 256) = sym (xor_shifted (c / 256) 8 (c % 256) (omega arith) ∙ omega arith) in
    ap steps parts ∙ steps_of_xor (c / 256 * 256) (c % 256) ∙ ap (λ x. bit_xor x (steps (c % 256))) (moved (c / 256))

-- The sum of two bytes, the lower one first: one number has both, and its lowest byte is summed twice.
pub two_summed : (s low high x : ℕ) → low < 256 → high < 256 → x ≡ bit_xor s (high * 256 + low)
    → sum_byte (sum_byte s low) high ≡ bit_xor (bit_xor (sum_byte (sum_byte 0 (x % 256)) 0) (sum_byte 0 (x / 256 % 256))) (x / 65536)
two_summed s low high x small large is =
    let y = bit_xor s low in
    let word : x ≡ bit_xor y (high * 256) = is ∙ ap (bit_xor s) (sym (xor_shifted high 8 low small)) ∙ sym (xor_assoc s (high * 256) low) ∙ swapped s (high * 256) low in
    let front : x % 256 ≡ y % 256 = ap (λ z. z % 256) word ∙ xor_mod y (high * 256) 8 ∙ (λ i. bit_xor (y % 256) (none high i)) ∙ xor_comm (y % 256) 0 in
    let back : x / 256 ≡ bit_xor (y / 256) high = ap (λ z. z / 256) word ∙ xor_shr y (high * 256) 8 ∙ (λ i. bit_xor (y / 256) (whole high i)) in
    let first : sum_byte s low ≡ bit_xor (y / 256) (steps (x % 256)) = lowest y ∙ (λ i. bit_xor (y / 256) (steps (sym front i))) in
    let second : bit_xor (sum_byte s low) high ≡ bit_xor (x / 256) (steps (x % 256)) = ap (λ z. bit_xor z high) first ∙ swapped (y / 256) (steps (x % 256)) high ∙ ap (λ z. bit_xor z (steps (x % 256))) (sym back) in
    let rest : steps (x / 256) ≡ bit_xor (x / 65536) (steps (x / 256 % 256)) = lowest (x / 256) ∙ (λ i. bit_xor (far i) (steps (x / 256 % 256))) in
    ap steps second
    ∙ steps_of_xor (x / 256) (steps (x % 256))
    ∙ ap (λ z. bit_xor z (steps (steps (x % 256)))) rest
    ∙ xor_comm (bit_xor (x / 65536) (steps (x / 256 % 256))) (steps (steps (x % 256)))
    ∙ ap (bit_xor (steps (steps (x % 256)))) (xor_comm (x / 65536) (steps (x / 256 % 256)))
    ∙ sym (xor_assoc (steps (steps (x % 256))) (steps (x / 256 % 256)) (x / 65536))
    ∙ (λ i. bit_xor (bit_xor (steps (xor_comm 0 (steps (x % 256)) i)) (steps (x / 256 % 256))) (x / 65536))
  where
    none : (n : ℕ) → n * 256 % 256 ≡ 0
    none n = omega arith

    whole : (n : ℕ) → n * 256 / 256 ≡ n
    whole n = omega arith

    far : x / 256 / 256 ≡ x / 65536
    far = omega arith
