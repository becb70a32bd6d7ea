-- Places of bytes, sector by sector.
use Rattle.std.proofs.Common.{◌≡◌, ℕ, zero, suc, ◌+◌, ◌-◌, ◌*◌, ◌/◌, ◌%◌, ◌<◌, ◌≤◌, List, [], ◌∷◌, ◌++◌, length, get_or, take, drop, map, true, refl, sym, ◌∙◌, ap, arith, ◌⊎◌, inl, inr, zero-add, add-zero, suc-add, min}
use Rattle.std.specs.Prelude.{IsTrue}
use Rattle.std.specs.List.{range_with_len}
use Rattle.std.proofs.lemmas.Bool.{or_cases, eqb-true, cases_lt, lt-ltb, ltb-true, and_parts}
use Rattle.std.proofs.lemmas.List.{map-append, ext_get_or, get_or-take, get_or-drop, length-take, length-drop, length-map}
use Rattle.std.proofs.lemmas.List.FromFn.{length-range_with_len, get_or-map-range_with_len}
use Rattle.carrier_model.specs.Sectors.{is_size}
use Rattle.carrier_model.specs.Streams.{is_piece, place_in, places_of, content, lie_below}

pub size_cases : (z : ℕ) → IsTrue (is_size z) → (z ≡ 512) ⊎ (z ≡ 4096)
size_cases z h =
    elim (or_cases _ _ h) [ inl a ↦ inl (eqb-true z 512 a) | inr b ↦ inr (eqb-true z 4096 b) ]

pub piece_cases : (z : ℕ) → IsTrue (is_piece z) → (z ≡ 64) ⊎ ((z ≡ 512) ⊎ (z ≡ 4096))
piece_cases z h =
    elim (or_cases _ _ h) [ inl a ↦ inl (eqb-true z 64 a) | inr b ↦ inr (size_cases z b) ]

-- the last word of a whole sector lies within the file
pub last_word : (z n len : ℕ) → IsTrue (is_size z) → n < (len - z) / z → (n + 1) * z + (z - 4) + 4 ≤ len
last_word z n len h whole =
    elim (size_cases z h) [
      | inl a ↦ let w : n < (len - 512) / 512 = rw (← a) whole in rw a (omega arith)
      | inr a ↦ let w : n < (len - 4096) / 4096 = rw (← a) whole in rw a (omega arith)
    ]

pub place_in-at : (z : ℕ) (c : List ℕ) (i j : ℕ) → IsTrue (is_piece z) → j < z → place_in z c (z * i + j) ≡ get_or c i 0 + j
place_in-at z c i j h below =
    let parts : ((z * i + j) / z ≡ i) × ((z * i + j) % z ≡ j) = elim (piece_cases z h) [
      | inl a ↦ let b : j < 64 = rw (← a) below in rw a (omega arith, omega arith)
      | inr (inl a) ↦ let b : j < 512 = rw (← a) below in rw a (omega arith, omega arith)
      | inr (inr a) ↦ let b : j < 4096 = rw (← a) below in rw a (omega arith, omega arith)
    ] in
    rw (parts.0, parts.1) refl

pub range-append : (a m n : ℕ) → range_with_len a (m + n) ≡ range_with_len a m ++ range_with_len (a + m) n
range-append a zero n = rw (zero-add n, add-zero a) refl
range-append a (suc m) n = rw (suc-add m n) (ap (λ xs. a ∷ xs) (range-append (a + 1) m n ∙ ap (λ k. range_with_len (a + 1) m ++ range_with_len k n) (omega arith)))

-- a part of the bytes, by its places
pub part-is : (b : List ℕ) (f : ℕ → ℕ) (a n start : ℕ) → start + n ≤ length b → ((j : ℕ) → j < n → f (a + j) ≡ start + j) → take n (drop start b) ≡ map (λ p. get_or b p 0) (map f (range_with_len a n))
part-is b f a n start inside places =
    ext_get_or 0 _ _
    (simp (length-take, length-drop, length-map, length-range_with_len) (omega arith))
    (λ i below.
    let short : i < n = omega (arith, simp (length-take, length-drop) at below) in
    let one : get_or (map (λ p. get_or b p 0) (map f (range_with_len a n))) i 0 ≡ get_or b (f (a + i)) 0 = ap (λ xs. get_or xs i 0) (map-map f (λ p. get_or b p 0) (range_with_len a n)) ∙ get_or-map-range_with_len (λ k. get_or b (f k) 0) a n i (a + i) 0 short refl in
    get_or-take n (drop start b) i 0 short ∙ (get_or-drop start b i 0 ∙ (ap (λ p. get_or b p 0) (sym (places i short)) ∙ sym one)))
  where
    map-map : (f g : ℕ → ℕ) (xs : List ℕ) → map g (map f xs) ≡ map (λ k. g (f k)) xs
    map-map f g [] = refl
    map-map f g (x ∷ xs) = ap (λ ys. g (f x) ∷ ys) (map-map f g xs)

pub content-more : (b : List ℕ) (z : ℕ) (c : List ℕ) (i n : ℕ) → IsTrue (is_piece z) → n ≤ z → get_or c i 0 + n ≤ length b → content b (places_of z c (z * i + n)) ≡ content b (places_of z c (z * i)) ++ take n (drop (get_or c i 0) b)
content-more b z c i n h short inside =
    rw (range-append 0 (z * i) n, map-append (place_in z c) (range_with_len 0 (z * i)) (range_with_len (0 + z * i) n), map-append (λ p. get_or b p 0) (map (place_in z c) (range_with_len 0 (z * i))) (map (place_in z c) (range_with_len (0 + z * i) n)))
    (ap (λ ys. content b (places_of z c (z * i)) ++ ys) (sym (part-is b (place_in z c) (0 + z * i) n (get_or c i 0) inside (λ j below. ap (λ k. place_in z c (k + j)) (zero-add (z * i)) ∙ place_in-at z c i j h (omega arith)))))

-- the last byte of a piece is past the end
pub past_end : (z : ℕ) (c : List ℕ) (i n len size done : ℕ) → IsTrue (is_piece z) → done ≡ min size (z * i) → n ≡ min z (size - done) → 0 < n → len < get_or c i 0 + n → ((k : ℕ) → k < size → place_in z c k < len) → ⊥
past_end z c i n len size done h so_far piece some past all =
    let full : done ≡ z * i = omega arith in
    let last = all (z * i + (n - 1)) (omega arith) in
    let at = place_in-at z c i (n - 1) h (omega arith) in
    omega arith

pub piece_inside : (z : ℕ) (c : List ℕ) (i n len size done : ℕ) → IsTrue (is_piece z) → done ≡ min size (z * i) → n ≡ min z (size - done) → 0 < n → ((k : ℕ) → k < size → place_in z c k < len) → get_or c i 0 + n ≤ len
piece_inside z c i n len size done h so_far piece some all =
    elim (cases_lt len (get_or c i 0 + n)) [
      | inl past ↦ absurd (past_end z c i n len size done h so_far piece some past all)
      | inr inside ↦ inside
    ]

-- one more piece
pub piece-more : (b : List ℕ) (z : ℕ) (c : List ℕ) (i n size done : ℕ) → IsTrue (is_piece z) → done ≡ min size (z * i) → n ≡ min z (size - done) → 0 < n → ((k : ℕ) → k < size → place_in z c k < length b) → content b (places_of z c (done + n)) ≡ content b (places_of z c done) ++ take n (drop (get_or c i 0) b)
piece-more b z c i n size done h so_far piece some all =
    let full : done ≡ z * i = omega arith in
    rw full (content-more b z c i n h (omega arith) (piece_inside z c i n (length b) size done h so_far piece some all))

-- the test of all places, and what it tells
pub within-from : (f : ℕ → ℕ) (len a n : ℕ) → ((k : ℕ) → k < n → f (a + k) < len) → lie_below len (map f (range_with_len a n)) ≡ true
within-from f len a zero h = refl
within-from f len a (suc n) h =
    rw (lt-ltb (f a) len (let first = h 0 (omega arith) in rw add-zero at first)) (within-from f len (a + 1) n (λ k below. let next = h (k + 1) (omega arith) in let e : a + 1 + k ≡ a + (k + 1) = omega arith in rw e next))

pub within-to : (f : ℕ → ℕ) (len a n : ℕ) → lie_below len (map f (range_with_len a n)) ≡ true → (k : ℕ) → k < n → f (a + k) < len
within-to f len a zero h k below = absurd (omega arith)
within-to f len a (suc n) h zero below = rw add-zero (ltb-true (f a) len (and_parts _ _ h).0)
within-to f len a (suc n) h (suc k) below =
    let e : a + suc k ≡ a + 1 + k = omega arith in
    rw e (within-to f len (a + 1) n (and_parts _ _ h).1 k (omega arith))

pub places-to : (z : ℕ) (c : List ℕ) (len size : ℕ) → lie_below len (places_of z c size) ≡ true → (k : ℕ) → k < size → place_in z c k < len
places-to z c len size h k below = let p = within-to (place_in z c) len 0 size h k below in rw zero-add at p

pub places-from : (z : ℕ) (c : List ℕ) (len size : ℕ) → ((k : ℕ) → k < size → place_in z c k < len) → lie_below len (places_of z c size) ≡ true
places-from z c len size h = within-from (place_in z c) len 0 size (λ k below. rw zero-add (h k below))

-- a mini sector does not lie across two sectors
pub mini_place : (z : ℕ) (starts : List ℕ) (m j : ℕ) → IsTrue (is_size z) → j < 64 → place_in z starts (64 * m) + j ≡ place_in z starts (64 * m + j)
mini_place z starts m j h below =
    let parts : ((64 * m + j) / z ≡ 64 * m / z) × ((64 * m + j) % z ≡ (64 * m) % z + j) = elim (size_cases z h) [
      | inl a ↦ rw a (omega arith, omega arith)
      | inr a ↦ rw a (omega arith, omega arith)
    ] in
    rw (parts.0, parts.1) (omega arith)

-- the mini stream has a sector for each of its mini sectors
pub mini_sector : (z m size n : ℕ) → IsTrue (is_size z) → m < (size + 63) / 64 → size ≤ z * n → 64 * m / z < n
mini_sector z m size n h below enough =
    elim (size_cases z h) [
      | inl a ↦ let e : size ≤ 512 * n = rw (← a) enough in rw a (omega arith)
      | inr a ↦ let e : size ≤ 4096 * n = rw (← a) enough in rw a (omega arith)
    ]
