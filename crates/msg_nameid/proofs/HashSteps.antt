-- Steps of a cyclic sum and of hash streams.
use Rattle.std.proofs.Common.{◌≡◌, ℕ, zero, suc, ◌+◌, ◌-◌, ◌<◌, List, [], ◌++◌, length, map, get_or, sym, ap, ◌∙◌, refl, arith}
use Rattle.std.specs.Prelude.{slice_set, bit_xor}
use Rattle.std.proofs.lemmas.List.{map-set, get_or-map}
use Rattle.msg_model.specs.WrittenNames.{sum_bit, sum_byte}
use Rattle.msg_nameid.specs.Gathered.{with_hash}

-- so many bits
pub bits : ℕ → ℕ → ℕ
bits zero c = c
bits (suc n) c = bits n (sum_bit c)

pub bits_more : (n c : ℕ) → bits n (sum_bit c) ≡ bits (suc n) c
unfolding bits
bits_more n c = refl

pub bits_step : (k c d : ℕ) → k < 8 → d ≡ sum_bit c → bits (8 - (k + 1)) d ≡ bits (8 - k) c
bits_step k c d lt e = ap (bits (8 - (k + 1))) e ∙ (bits_more (8 - (k + 1)) c ∙ ap (λ n. bits n c) (let z : suc (8 - (k + 1)) ≡ 8 - k = omega arith in z))

pub bits_done : (k c s b : ℕ) → 8 - k ≡ 0 → bits (8 - k) c ≡ bits 8 (bit_xor s b) → c ≡ sum_byte s b
unfolding bits
bits_done k c s b z e = sym (ap (λ n. bits n c) z) ∙ e

-- bytes behind those of one stream
pub hash_pushed : {V : Type 0} (of : V → List ℕ) (items : List V) (b : ℕ) (old new : V) (bytes : List ℕ) → b < length items → old ≡ get_or items b old → of new ≡ of old ++ bytes → map of (slice_set items b new) ≡ with_hash (map of items) b bytes
hash_pushed of items b old new bytes lt at e =
    let here : get_or (map of items) b [] ≡ of old = get_or-map of items b old [] lt ∙ ap of (sym at) in
    map-set of items b new ∙ ap (slice_set (map of items) b) (e ∙ ap (λ l. l ++ bytes) (sym here))
