-- Blobs piece by piece, and units byte by byte.
use Rattle.std.proofs.Common.{◌≡◌, ℕ, zero, suc, ◌+◌, ◌-◌, ◌<◌, ◌≤◌, min, List, [], ◌∷◌, ◌++◌, length, get_or, take, drop, Option, None, Some, refl, sym, ap, ◌∙◌, append_assoc, arith}
use Rattle.std.specs.List.{flat_map}
use Rattle.std.proofs.lemmas.List.{append-nil, drop_more}
use Rattle.std.proofs.lemmas.List.Concat.{flat_map-append}
use Rattle.carrier_io.specs.Pieces.{joined}
use Rattle.carrier_model.specs.Bytes.{units_of}
use Rattle.carrier_model.specs.KeyTexts.{unit_text}
use Rattle.tree_texts.specs.Halves.{kept, kept_behind, half_kept, half_text}

-- so many pieces from a place on
abbrev pub pieces_from : (ℕ → List ℕ) → ℕ → ℕ → List ℕ
pieces_from piece k zero = []
pieces_from piece k (suc n) = piece k ++ pieces_from piece (suc k) n

pieces_more : (piece : ℕ → List ℕ) (k n : ℕ) → pieces_from piece k n ++ piece (k + n) ≡ pieces_from piece k (suc n)
pieces_more piece k zero = ap piece (omega arith) ∙ sym (append-nil (piece k))
pieces_more piece k (suc n) =
    let e : k + suc n ≡ suc k + n = omega arith in
    append_assoc (piece k) (pieces_from piece (suc k) n) (piece (k + suc n))
    ∙ ap (λ (z : List ℕ). piece k ++ (pieces_from piece (suc k) n ++ z)) (ap piece e)
    ∙ ap (λ (z : List ℕ). piece k ++ z) (pieces_more piece (suc k) n)

-- all pieces are those from the first on
pub all_pieces : (piece : ℕ → List ℕ) (n : ℕ) → joined piece n ≡ pieces_from piece 0 n
all_pieces piece zero = refl
all_pieces piece (suc n) =
    let e : n ≡ 0 + n = omega arith in
    ap (λ (z : List ℕ). z ++ piece n) (all_pieces piece n)
    ∙ (ap (λ j. pieces_from piece 0 n ++ piece j) e ∙ pieces_more piece 0 n)

-- the piece at a place, and those behind it
pub next_piece : (piece : ℕ → List ℕ) (k n : ℕ) → k < n → pieces_from piece k (n - k) ≡ piece k ++ pieces_from piece (k + 1) (n - (k + 1))
next_piece piece k n lt =
    let e : n - k ≡ suc (n - (k + 1)) = omega arith in
    let s : suc k ≡ k + 1 = omega arith in
    ap (pieces_from piece k) e ∙ ap (λ j. piece k ++ pieces_from piece j (n - (k + 1))) s

pub no_piece : (piece : ℕ → List ℕ) (k n : ℕ) → n ≤ k → pieces_from piece k (n - k) ≡ []
no_piece piece k n le = let e : n - k ≡ 0 = omega arith in ap (pieces_from piece k) e

-- ---- units

-- the text of the units of a low byte that is kept, and of the bytes behind it
abbrev pub text_behind : Option ℕ → List ℕ → List ℕ
text_behind low bytes = flat_map unit_text (units_of (kept low ++ bytes))

pub next_half : (low : Option ℕ) (byte : ℕ) (more : List ℕ) → text_behind low (byte ∷ more) ≡ half_text low byte ++ text_behind (half_kept low byte) more
next_half None byte more = refl
next_half (Some first) byte more = refl

-- the byte at a place, and those behind it
pub next_half_at : (low : Option ℕ) (xs : List ℕ) (k d : ℕ) → k < length xs → text_behind low (drop k xs) ≡ half_text low (get_or xs k d) ++ text_behind (half_kept low (get_or xs k d)) (drop (k + 1) xs)
next_half_at low xs k d lt = ap (text_behind low) (drop_more xs k d lt) ∙ next_half low (get_or xs k d) (drop (k + 1) xs)

pub kept_at : (low : Option ℕ) (xs : List ℕ) (k d : ℕ) → k < length xs → kept_behind low (drop k xs) ≡ kept_behind (half_kept low (get_or xs k d)) (drop (k + 1) xs)
kept_at low xs k d lt = ap (kept_behind low) (drop_more xs k d lt)

pub no_half : (low : Option ℕ) → text_behind low [] ≡ []
no_half None = refl
no_half (Some first) = refl

pub more_halves : (low : Option ℕ) (xs ys : List ℕ) → text_behind low (xs ++ ys) ≡ text_behind low xs ++ text_behind (kept_behind low xs) ys
more_halves low [] ys = ap (λ (z : List ℕ). z ++ text_behind low ys) (sym (no_half low))
more_halves low (x ∷ xs) ys =
    next_half low x (xs ++ ys)
    ∙ ap (λ (z : List ℕ). half_text low x ++ z) (more_halves (half_kept low x) xs ys)
    ∙ sym (append_assoc (half_text low x) (text_behind (half_kept low x) xs) (text_behind (kept_behind low (x ∷ xs)) ys))
    ∙ ap (λ (z : List ℕ). z ++ text_behind (kept_behind low (x ∷ xs)) ys) (sym (next_half low x xs))

-- ---- the first bytes

take_parted : (m left n : ℕ) (xs ys : List ℕ) → m ≡ min (length xs) n → left ≡ n - m → take n (xs ++ ys) ≡ take m xs ++ take left ys
take_parted m left zero xs ys e f =
    let a : m ≡ 0 = omega (arith, e) in
    let b : left ≡ 0 = omega (arith, f) in
    rw (a, b) refl
take_parted m left (suc n) [] ys e f =
    let a : m ≡ 0 = omega (arith, e) in
    let b : left ≡ suc n = omega (arith, e, f) in
    rw (a, b) refl
take_parted m left (suc n) (x ∷ xs) ys e f =
    let a : m ≡ suc (min (length xs) n) = omega (arith, e) in
    let b : left ≡ n - min (length xs) n = omega (arith, e, f) in
    rw (a, b) (ap (λ (z : List ℕ). x ∷ z) (take_parted (min (length xs) n) (n - min (length xs) n) n xs ys refl refl))

-- ---- a blob's bytes, in print

-- all of them are in the pieces from the first on
pub whole_blob : (piece : ℕ → List ℕ) (n : ℕ) (bytes : List ℕ) → joined piece n ≡ bytes → bytes ≡ pieces_from piece 0 (n - 0)
whole_blob piece n bytes e =
    let z : n ≡ n - 0 = omega arith in
    sym e ∙ (all_pieces piece n ∙ ap (pieces_from piece 0) z)

pub next_piece_text : (f : ℕ → List ℕ) (piece : ℕ → List ℕ) (k n : ℕ) → k < n → flat_map f (pieces_from piece k (n - k)) ≡ flat_map f (piece k) ++ flat_map f (pieces_from piece (k + 1) (n - (k + 1)))
next_piece_text f piece k n lt = ap (flat_map f) (next_piece piece k n lt) ∙ flat_map-append f (piece k) (pieces_from piece (k + 1) (n - (k + 1)))

pub next_piece_units : (low : Option ℕ) (piece : ℕ → List ℕ) (k n : ℕ) → k < n → text_behind low (pieces_from piece k (n - k)) ≡ text_behind low (piece k) ++ text_behind (kept_behind low (piece k)) (pieces_from piece (k + 1) (n - (k + 1)))
next_piece_units low piece k n lt = ap (text_behind low) (next_piece piece k n lt) ∙ more_halves low (piece k) (pieces_from piece (k + 1) (n - (k + 1)))

-- so many of the first bytes of a piece, and those of the pieces behind it
pub next_piece_front : (f : ℕ → List ℕ) (piece : ℕ → List ℕ) (k n m left more : ℕ) → k < n → m ≡ min (length (piece k)) left → more ≡ left - m
    → flat_map f (take left (pieces_from piece k (n - k))) ≡ flat_map f (take m (piece k)) ++ flat_map f (take more (pieces_from piece (k + 1) (n - (k + 1))))
next_piece_front f piece k n m left more lt e g =
    let behind = pieces_from piece (k + 1) (n - (k + 1)) in
    ap (λ (z : List ℕ). flat_map f (take left z)) (next_piece piece k n lt)
    ∙ (ap (flat_map f) (take_parted m more left (piece k) behind e g)
    ∙ flat_map-append f (take m (piece k)) (take more behind))
