-- Steps of sums over units and of the sums of bytes.
use Rattle.std.proofs.Common.{◌≡◌, ◌⊎◌, inl, inr, ℕ, ◌+◌, ◌*◌, ◌/◌, ◌%◌, ◌<◌, List, ◌∷◌, length, drop, get_or, set, add-one, drop-cons, sym, ap, subst, ◌∙◌, arith}
use Rattle.std.specs.Prelude.{bit_xor}
use Rattle.std.proofs.lemmas.List.{get_or-set_same, get_or-set_other}
use Rattle.std.proofs.Math.Nat.{eq-or-lt_of_le}
use Rattle.msg_model.specs.WrittenNames.{name_units, cyclic_sum, sum_byte}
use Rattle.msg_model.proofs.CyclicSums.{two_summed}
use Rattle.msg_nameid.specs.ByteSums.{AreByteSums}

-- a list has what a function gives of its places, up to one
abbrev pub Has : (ℕ → ℕ) → List ℕ → ℕ → Type 0
Has f list count = (k : ℕ) → k < count → get_or list k 0 ≡ f k

pub one_more : (f : ℕ → ℕ) (list : List ℕ) (n u : ℕ) → n < length list → Has f list n → u ≡ f n → Has f (set list n u) (n + 1)
one_more f list n u lt has is k le = by_place (eq-or-lt_of_le (omega (arith, le))) where
  by_place : (k ≡ n) ⊎ (k < n) → get_or (set list n u) k 0 ≡ f k
  by_place (inl same) = subst (λ j. get_or (set list n u) j 0 ≡ f j) (sym same) (get_or-set_same list n u 0 lt ∙ is)
  by_place (inr below) = get_or-set_other list n k u 0 (λ same. omega (arith, below, same)) ∙ has k below

-- a sum with one unit more
pub unit_summed : (units : List ℕ) (i s t : ℕ) → i < length units → t ≡ sum_byte (sum_byte s (get_or units i 0 % 256)) (get_or units i 0 / 256) → get_or units i 0 < 65536
    → cyclic_sum t (name_units (drop (i + 1) units)) ≡ cyclic_sum s (name_units (drop i units))
unit_summed units i s t lt is small =
    let unit = get_or units i 0 in
    let front : drop i units ≡ unit ∷ drop (i + 1) units = rw add-one (drop-cons units i 0 lt) in
    let high : unit / 256 ≡ unit / 256 % 256 = omega (arith, small) in
    ap (λ c. cyclic_sum c (name_units (drop (i + 1) units))) (is ∙ ap (sum_byte (sum_byte s (unit % 256))) high)
    ∙ ap (λ l. cyclic_sum s (name_units l)) (sym front)

-- a sum with a unit more, by the sums of bytes
pub word_summed : (alone before_zero : List ℕ) (s unit same : ℕ) → AreByteSums alone before_zero → unit < 65536 → same ≡ unit
    → bit_xor (bit_xor (get_or before_zero (bit_xor s same % 256) 0) (get_or alone (bit_xor s same / 256 % 256) 0)) (bit_xor s same / 65536) ≡ sum_byte (sum_byte s (unit % 256)) (unit / 256)
word_summed alone before_zero s unit same sums small is =
    let word = bit_xor s same in
    let parts : same ≡ unit / 256 * 256 + unit % 256 = omega (arith, is) in
    (λ i. bit_xor (bit_xor (sums.two (word % 256) (omega arith) i) (sums.one (word / 256 % 256) (omega arith) i)) (word / 65536))
    ∙ sym (two_summed s (unit % 256) (unit / 256) word (omega arith) (omega (arith, small)) (ap (bit_xor s) parts))
