-- The pieces of a stream.
use Rattle.std.proofs.Common.{◌≡◌, ℕ, zero, suc, ◌+◌, ◌-◌, ◌*◌, ◌/◌, ◌<◌, ◌≤◌, List, [], ◌∷◌, ◌++◌, length, get_or, take, drop, map, min, true, refl, sym, ◌∙◌, ap, arith, inl, inr, zero-add, suc-add}
use Rattle.std.specs.Prelude.{IsTrue}
use Rattle.std.specs.List.{range_with_len}
use Rattle.std.specs.Int.{div_ceil}
use Rattle.std.proofs.lemmas.List.{length-map, map-append, take_at}
use Rattle.std.proofs.lemmas.List.FromFn.{length-range_with_len, get_or-map-range_with_len}
use Rattle.carrier_model.specs.Streams.{is_piece, place_in, places_of, content, lie_below}
use Rattle.carrier_model.proofs.PlaceLaws.{piece_cases, piece-more, places-to, places-from, range-append}

-- a piece that there is begins before the end, and all of them reach it
pub begins_before : (z size n : ℕ) → IsTrue (is_piece z) → n < div_ceil size z → z * n < size
begins_before z size n h below =
    elim (piece_cases z h) [
      | inl a ↦ let b : n < div_ceil size 64 = rw (← a) below in rw a (omega arith)
      | inr (inl a) ↦ let b : n < div_ceil size 512 = rw (← a) below in rw a (omega arith)
      | inr (inr a) ↦ let b : n < div_ceil size 4096 = rw (← a) below in rw a (omega arith)
    ]

pub reaches_end : (z size : ℕ) → IsTrue (is_piece z) → size ≤ z * div_ceil size z
reaches_end z size h =
    elim (piece_cases z h) [
      | inl a ↦ rw a (omega arith)
      | inr (inl a) ↦ rw a (omega arith)
      | inr (inr a) ↦ rw a (omega arith)
    ]

pub piece_index : (z size n k : ℕ) → IsTrue (is_piece z) → size ≤ z * n → k < size → k / z < n
piece_index z size n k h enough below =
    elim (piece_cases z h) [
      | inl a ↦ let e : size ≤ 64 * n = rw (← a) enough in rw a (omega arith)
      | inr (inl a) ↦ let e : size ≤ 512 * n = rw (← a) enough in rw a (omega arith)
      | inr (inr a) ↦ let e : size ≤ 4096 * n = rw (← a) enough in rw a (omega arith)
    ]

-- the piece of this index; the last one ends with the stream
abbrev pub piece_at : List ℕ → ℕ → List ℕ → ℕ → ℕ → List ℕ
piece_at b z c size k = take (min z (size - z * k)) (drop (get_or c k 0) b)

joined_is : (b : List ℕ) (z : ℕ) (c : List ℕ) (size : ℕ) (J : ℕ → List ℕ) → J 0 ≡ [] → ((n : ℕ) → J (suc n) ≡ J n ++ piece_at b z c size n) → (n : ℕ) → IsTrue (is_piece z) → ((k : ℕ) → k < size → place_in z c k < length b) → n ≤ div_ceil size z → J n ≡ content b (places_of z c (min size (z * n)))
joined_is b z c size J first next zero h all few =
    let none : min size (z * 0) ≡ 0 = omega arith in
    rw none first
joined_is b z c size J first next (suc n) h all few =
    let before : z * n < size = begins_before z size n h (omega arith) in
    let done : min size (z * n) ≡ z * n = omega arith in
    let more : min size (z * suc n) ≡ z * n + min z (size - z * n) = omega arith in
    let some : 0 < min z (size - z * n) = omega (arith, zero_less z h) in
    rw more (next n ∙ ap (λ (xs : List ℕ). xs ++ take (min z (size - z * n)) (drop (get_or c n 0) b)) (joined_is b z c size J first next n h all (omega arith) ∙ ap (λ (k : ℕ). content b (places_of z c k)) done)
    ∙ sym (piece-more b z c n (min z (size - z * n)) size (z * n) h (sym done) refl some all))
  where
    zero_less : (z : ℕ) → IsTrue (is_piece z) → 0 < z
    zero_less z h = elim (piece_cases z h) [ inl a ↦ omega arith | inr (inl a) ↦ omega arith | inr (inr a) ↦ omega arith ]

-- all the pieces, one after another, are the stream's bytes
pub pieces_join : (b : List ℕ) (z : ℕ) (c : List ℕ) (size : ℕ) → IsTrue (is_piece z) → lie_below (length b) (places_of z c size) ≡ true → (J : ℕ → List ℕ) → J 0 ≡ [] → ((n : ℕ) → J (suc n) ≡ J n ++ piece_at b z c size n) → J (div_ceil size z) ≡ content b (places_of z c size)
pieces_join b z c size h within J first next =
    let all : min size (z * div_ceil size z) ≡ size = omega (arith, reaches_end z size h) in
    joined_is b z c size J first next (div_ceil size z) h (places-to z c (length b) size within) (omega arith)
    ∙ ap (λ (k : ℕ). content b (places_of z c k)) all

-- how many bytes and places there are, and where one is
pub length-content : (b : List ℕ) (z : ℕ) (c : List ℕ) (size : ℕ) → length (content b (places_of z c size)) ≡ size
length-content b z c size = simp (length-map, length-range_with_len) refl

pub length-places : (z : ℕ) (c : List ℕ) (size : ℕ) → length (places_of z c size) ≡ size
length-places z c size = simp (length-map, length-range_with_len) refl

pub place_at : (z : ℕ) (c : List ℕ) (size k : ℕ) → k < size → get_or (places_of z c size) k 0 ≡ place_in z c k
place_at z c size k below = get_or-map-range_with_len (place_in z c) 0 size k k 0 below (zero-add k)

pub byte_at : (b : List ℕ) (z : ℕ) (c : List ℕ) (size k : ℕ) → k < size → get_or (content b (places_of z c size)) k 0 ≡ get_or b (place_in z c k) 0
byte_at b z c size k below =
    ap (λ xs. get_or xs k 0) (map-map (place_in z c) (λ p. get_or b p 0) (range_with_len 0 size)) ∙ get_or-map-range_with_len (λ k. get_or b (place_in z c k) 0) 0 size k k 0 below (zero-add k)
  where
    map-map : (f g : ℕ → ℕ) (xs : List ℕ) → map g (map f xs) ≡ map (λ k. g (f k)) xs
    map-map f g [] = refl
    map-map f g (x ∷ xs) = ap (λ ys. g (f x) ∷ ys) (map-map f g xs)

-- the first of them
taken_range : (f : ℕ → ℕ) (m n : ℕ) → n ≤ m → take n (map f (range_with_len 0 m)) ≡ map f (range_with_len 0 n)
taken_range f m n few =
    let parts : m ≡ n + (m - n) = omega arith in
    let whole : map f (range_with_len 0 m) ≡ map f (range_with_len 0 n) ++ map f (range_with_len (0 + n) (m - n)) = ap (λ k. map f (range_with_len 0 k)) parts ∙ (ap (map f) (range-append 0 n (m - n)) ∙ map-append f (range_with_len 0 n) (range_with_len (0 + n) (m - n))) in
    let long : length (map f (range_with_len 0 n)) ≡ n = simp (length-map, length-range_with_len) refl in
    ap (take n) whole ∙ take_at (map f (range_with_len 0 n)) (map f (range_with_len (0 + n) (m - n))) n long

pub places-take : (z : ℕ) (c : List ℕ) (size n : ℕ) → n ≤ size → take n (places_of z c size) ≡ places_of z c n
places-take z c size n few = taken_range (place_in z c) size n few

pub content-take : (b : List ℕ) (z : ℕ) (c : List ℕ) (size n : ℕ) → n ≤ size → take n (content b (places_of z c size)) ≡ content b (places_of z c n)
content-take b z c size n few =
    ap (take n) (map-map (place_in z c) (λ p. get_or b p 0) (range_with_len 0 size)) ∙ (taken_range (λ k. get_or b (place_in z c k) 0) size n few ∙ sym (map-map (place_in z c) (λ p. get_or b p 0) (range_with_len 0 n)))
  where
    map-map : (f g : ℕ → ℕ) (xs : List ℕ) → map g (map f xs) ≡ map (λ k. g (f k)) xs
    map-map f g [] = refl
    map-map f g (x ∷ xs) = ap (λ ys. g (f x) ∷ ys) (map-map f g xs)

pub within-take : (z : ℕ) (c : List ℕ) (len size n : ℕ) → n ≤ size → lie_below len (places_of z c size) ≡ true → lie_below len (places_of z c n) ≡ true
within-take z c len size n few h = places-from z c len n (λ k below. places-to z c len size h k (omega arith))

-- numbers of so many bytes are below this
abbrev pub room : ℕ → ℕ
room zero = 1
room (suc n) = 256 * room n

room-more : (n d : ℕ) → room n ≤ room (d + n)
room-more n zero = rw zero-add (omega arith)
room-more n (suc d) = rw suc-add (omega (arith, room-more n d))

pub room-few : (n : ℕ) → n ≤ 8 → room n ≤ 18446744073709551616
room-few n few = let more = room-more n (8 - n) in let e : 8 - n + n ≡ 8 = omega arith in rw e at more

pub room-next : (i : ℕ) → i < 8 → 256 * room i ≤ 18446744073709551616
room-next i few = room-few (suc i) (omega arith)

-- what stands in a list doesn't hang on what stands past its end
pub same_item : (xs : List ℕ) (i d e : ℕ) → i < length xs → get_or xs i d ≡ get_or xs i e
same_item [] i d e below = absurd (omega arith)
same_item (x ∷ xs) zero d e below = refl
same_item (x ∷ xs) (suc i) d e below = same_item xs i d e (omega arith)

-- a piece that begins before the end has a start, and bytes
pub sector_there : (z k size n : ℕ) → IsTrue (is_piece z) → z * k < size → size ≤ z * n → k < n
sector_there z k size n h before enough =
    elim (piece_cases z h) [
      | inl a ↦ let b : 64 * k < size = rw (← a) before in let e : size ≤ 64 * n = rw (← a) enough in omega arith
      | inr (inl a) ↦ let b : 512 * k < size = rw (← a) before in let e : size ≤ 512 * n = rw (← a) enough in omega arith
      | inr (inr a) ↦ let b : 4096 * k < size = rw (← a) before in let e : size ≤ 4096 * n = rw (← a) enough in omega arith
    ]

pub some_of : (z k size : ℕ) → IsTrue (is_piece z) → z * k < size → 0 < min z (size - z * k)
some_of z k size h before =
    let some : 0 < z = elim (piece_cases z h) [ inl a ↦ omega arith | inr (inl a) ↦ omega arith | inr (inr a) ↦ omega arith ] in
    omega arith
