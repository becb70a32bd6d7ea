-- Parts of a stream that begin anywhere.
use Rattle.std.proofs.Common.{◌≡◌, ℕ, suc, ◌+◌, ◌-◌, ◌*◌, ◌/◌, ◌%◌, ◌<◌, ◌≤◌, List, ◌++◌, length, get_or, take, drop, min, true, sym, ◌∙◌, ap, arith, inl, inr, take-add}
use Rattle.std.specs.Prelude.{IsTrue}
use Rattle.std.proofs.lemmas.List.{ext_get_or, get_or-take, get_or-drop, length-take, length-drop, take_at, drop-drop, append_assoc, get_or_append_left}
use Rattle.std.proofs.Math.Seq.{drop-append-add, take-take}
use Rattle.cfb_sectors.specs.Seen.{number_in}
use Rattle.carrier_model.specs.Streams.{is_piece, place_in, places_of, content, lie_below}
use Rattle.carrier_model.proofs.PlaceLaws.{piece_cases, places-to}
use Rattle.carrier_model.proofs.ViewLaws.{byte_at, length-content, same_item}

-- up to the end of a piece the places follow one another
pub place_more : (z : ℕ) (c : List ℕ) (at j : ℕ) → IsTrue (is_piece z) → j < z - at % z → place_in z c (at + j) ≡ place_in z c at + j
place_more z c at j h below =
    let parts : ((at + j) / z ≡ at / z) × ((at + j) % z ≡ at % z + j) = elim (piece_cases z h) [
      | inl a ↦ let b : j < 64 - at % 64 = rw (← a) below in rw a (omega arith, omega arith)
      | inr (inl a) ↦ let b : j < 512 - at % 512 = rw (← a) below in rw a (omega arith, omega arith)
      | inr (inr a) ↦ let b : j < 4096 - at % 4096 = rw (← a) below in rw a (omega arith, omega arith)
    ] in
    rw (parts.0, parts.1) (omega arith)

-- a place lies in a piece
pub before_end : (z at : ℕ) → IsTrue (is_piece z) → at % z < z
before_end z at h = elim (piece_cases z h) [ inl a ↦ rw a (omega arith) | inr (inl a) ↦ rw a (omega arith) | inr (inr a) ↦ rw a (omega arith) ]

-- what is left of a piece, or of the stream, lies within the file
pub rest_inside : (z : ℕ) (c : List ℕ) (len size at n : ℕ) → IsTrue (is_piece z) → lie_below len (places_of z c size) ≡ true → at < size → n ≡ min (z - at % z) (size - at) → place_in z c at + n ≤ len
rest_inside z c len size at n h within below is =
    let room = before_end z at h in
    let last = places-to z c len size within (at + (n - 1)) (omega arith) in
    let on = place_more z c at (n - 1) h (omega arith) in
    omega arith

-- and is that part of the stream
pub rest_is : (b : List ℕ) (z : ℕ) (c : List ℕ) (size at n : ℕ) → IsTrue (is_piece z) → lie_below (length b) (places_of z c size) ≡ true → at < size → n ≡ min (z - at % z) (size - at) → take n (drop (place_in z c at) b) ≡ take n (drop at (content b (places_of z c size)))
rest_is b z c size at n h within below is =
    let inside = rest_inside z c (length b) size at n h within below is in
    ext_get_or 0 _ _
    (simp (length-take, length-drop, length-content) (omega arith))
    (λ i under.
    let short : i < n = omega (arith, simp (length-take, length-drop) at under) in
    get_or-take n (drop (place_in z c at) b) i 0 short ∙ (get_or-drop (place_in z c at) b i 0
    ∙ (ap (λ p. get_or b p 0) (sym (place_more z c at i h (omega arith))) ∙ (sym (byte_at b z c size (at + i) (omega arith))
    ∙ (sym (get_or-drop at (content b (places_of z c size)) i 0) ∙ sym (get_or-take n (drop at (content b (places_of z c size))) i 0 short))))))

-- the same where the place and the count are given
pub rest_part : (b : List ℕ) (z : ℕ) (c : List ℕ) (size at start k : ℕ) → IsTrue (is_piece z) → lie_below (length b) (places_of z c size) ≡ true → at < size → start ≡ place_in z c at → k ≡ min (z - at % z) (size - at) → (take k (drop start b) ≡ take (length (take k (drop start b))) (drop at (content b (places_of z c size)))) × (length (take k (drop start b)) ≡ min (z - at % z) (length (content b (places_of z c size)) - at)) × (0 < length (take k (drop start b)))
rest_part b z c size at start k h within below place is =
    let inside : start + k ≤ length b = rw place (rest_inside z c (length b) size at k h within below is) in
    let count : length (take k (drop start b)) ≡ k = simp (length-take, length-drop) (omega arith) in
    let long = length-content b z c size in
    let some = before_end z at h in
    (rw (count, place) (rest_is b z c size at k h within below is), rw (count, long) is, rw count (omega arith))

-- one more part in a buffer that has the first ones
pub copied_more : (s init buf part new : List ℕ) (at done n k : ℕ) → new ≡ take n part → k ≡ n → buf ≡ take done (drop at s) ++ drop done init → at + done + n ≤ length s → part ≡ take (length part) (drop (at + done) s) → n ≤ length part → take done buf ++ (new ++ drop k (drop done buf)) ≡ take (done + n) (drop at s) ++ drop (done + n) init
copied_more s init buf part new at done n k en ek so_far inside is few =
    let count : length (take done (drop at s)) ≡ done = simp (length-take, length-drop) (omega arith) in
    let front : take done buf ≡ take done (drop at s) = rw so_far (take_at (take done (drop at s)) (drop done init) done count) in
    let back : drop (done + n) buf ≡ drop (done + n) init =
    ap (drop (done + n)) so_far ∙ (ap (λ k. drop (k + n) (take done (drop at s) ++ drop done init)) (sym count) ∙ (drop-append-add (take done (drop at s)) (drop done init) n ∙ drop-drop n done init)) in
    let here : take n part ≡ take n (drop done (drop at s)) =
    ap (take n) is ∙ (take-take n (length part) (drop (at + done) s) few ∙ ap (take n) (sym (drop-drop done at s))) in
    rw (drop-drop k done buf, en, ek, front, back, here, take-add done n (drop at s)) (sym (append_assoc (take done (drop at s)) (take n (drop done (drop at s))) (drop (done + n) init)))

-- a byte of a part that stands at the front of a list
pub copied_byte : (s xs back : List ℕ) (at j k width d : ℕ) → xs ≡ take width (drop at s) → j < width → at + width ≤ length s → k ≡ at + j → get_or (xs ++ back) j d ≡ get_or s k 0
copied_byte s xs back at j k width d is below inside ek =
    let long : j < length xs = rw is (simp (length-take, length-drop) (omega arith)) in
    get_or_append_left xs back d j long
    ∙ (same_item xs j d 0 long ∙ (ap (λ ys. get_or ys j 0) is ∙ (get_or-take width (drop at s) j 0 below ∙ (get_or-drop at s j 0 ∙ ap (λ i. get_or s i 0) (sym ek)))))

-- a number with one byte more below the others
pub number_more : (s : List ℕ) (at next i v f : ℕ) → f ≡ get_or s at 0 → next ≡ at + 1 → v ≡ number_in s next i → 256 * v + f ≡ number_in s at (i + 1)
number_more s at next i v f ef en ev =
    let one : i + 1 ≡ suc i = omega arith in
    let turned : 256 * number_in s (at + 1) i + get_or s at 0 ≡ get_or s at 0 + 256 * number_in s (at + 1) i = omega arith in
    rw (ev, en, ef) (turned ∙ ap (number_in s at) (sym one))
