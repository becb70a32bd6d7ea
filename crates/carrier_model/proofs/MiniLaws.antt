-- Where mini sectors lie.
use Rattle.std.proofs.Common.{◌≡◌, ℕ, zero, suc, ◌+◌, ◌*◌, ◌/◌, ◌%◌, ◌<◌, ◌≤◌, List, [], ◌∷◌, length, get_or, map, min, true, refl, ◌∙◌, ap, arith}
use Rattle.std.specs.Prelude.{IsTrue, All}
use Rattle.std.specs.Int.{div_ceil}
use Rattle.std.proofs.lemmas.List.{length-map}
use Rattle.std.proofs.lemmas.List.Elements.{All-get_or, All-from_get_or}
use Rattle.carrier_model.specs.Sectors.{is_size}
use Rattle.carrier_model.specs.Streams.{place_in, places_of, mini_offsets, lie_below}
use Rattle.carrier_model.proofs.PlaceLaws.{mini_place, places-to, places-from}

pub mapped_at : (f : ℕ → ℕ) (c : List ℕ) (i : ℕ) → i < length c → get_or (map f c) i 0 ≡ f (get_or c i 0)
mapped_at f [] i below = absurd (omega arith)
mapped_at f (n ∷ c) zero below = refl
mapped_at f (n ∷ c) (suc i) below = mapped_at f c i (omega arith)

-- a mini sector with a word begins in the mini stream
pub offsets_inside : (z size n words : ℕ) (chain : List ℕ) → All (λ m. m < min (div_ceil size 64) words) chain → size ≤ z * n → All (λ o. o < z * n) (mini_offsets chain)
offsets_inside z size n words chain few enough =
    All-from_get_or (λ o. o < z * n) (mini_offsets chain) 0 (λ i below.
    let there : i < length chain = simp length-map at below in
    let one = All-get_or (λ m. m < min (div_ceil size 64) words) chain i 0 there few in
    rw (mapped_at (λ m. 64 * m) chain i there) (omega (arith, one, enough)))

-- a stream of mini sectors lies in the file, if it lies in the mini stream and this in the file
pub mini_within : (z : ℕ) (from chain : List ℕ) (len room size : ℕ) → IsTrue (is_size z) → size ≤ 64 * length chain → lie_below room (places_of 64 (mini_offsets chain) size) ≡ true → lie_below len (places_of z from room) ≡ true → lie_below len (places_of 64 (map (place_in z from) (mini_offsets chain)) size) ≡ true
mini_within z from chain len room size h enough inside within =
    places-from 64 (map (place_in z from) (mini_offsets chain)) len size (λ k below.
    let there : k / 64 < length chain = omega arith in
    let there2 : k / 64 < length (mini_offsets chain) = simp length-map there in
    let one : place_in 64 (mini_offsets chain) k ≡ 64 * get_or chain (k / 64) 0 + k % 64 = ap (λ s. s + k % 64) (mapped_at (λ m. 64 * m) chain (k / 64) there) in
    let low : 64 * get_or chain (k / 64) 0 + k % 64 < room = rw one at (places-to 64 (mini_offsets chain) room size inside k below) in
    let two : place_in 64 (map (place_in z from) (mini_offsets chain)) k ≡ place_in z from (64 * get_or chain (k / 64) 0 + k % 64) =
    ap (λ s. s + k % 64) (mapped_at (place_in z from) (mini_offsets chain) (k / 64) there2 ∙ ap (place_in z from) (mapped_at (λ m. 64 * m) chain (k / 64) there)) ∙ mini_place z from (get_or chain (k / 64) 0) (k % 64) h (omega arith) in
    rw two (places-to z from len room within (64 * get_or chain (k / 64) 0 + k % 64) low))
