-- Texts of lists, element by element.
use Rattle.std.proofs.Common.{ℕ, zero, suc, ◌+◌, ◌-◌, ◌*◌, ◌/◌, ◌%◌, ◌<◌, ◌≤◌, ◌≡◌, List, [], ◌∷◌, ◌++◌, length, get_or, take, drop, ap, sym, ◌∙◌, append_assoc, inl, inr, refl, arith}
use Rattle.std.specs.Int.{w16, from_le_bytes}
use Rattle.std.specs.List.{flat_map}
use Rattle.std.proofs.lemmas.Bool.{cases_lt}
use Rattle.std.proofs.lemmas.List.{append-nil, drop_more, take_all, take_more, take-append-drop}
use Rattle.std.proofs.lemmas.List.Concat.{flat_map-append}
use Rattle.carrier_io.specs.Pieces.{joined}
use Rattle.json.specs.Print.{escape_byte, escape}

pub escape-append : (xs ys : List ℕ) → escape (xs ++ ys) ≡ escape xs ++ escape ys
escape-append xs ys = flat_map-append escape_byte xs ys

-- the text at a place, and those behind it
pub next_item : {X : Type 0} (f : X → List ℕ) (xs : List X) (k : ℕ) (d : X) → k < length xs → flat_map f (drop k xs) ≡ f (get_or xs k d) ++ flat_map f (drop (k + 1) xs)
next_item f xs k d lt = ap (flat_map f) (drop_more xs k d lt)

-- one element more
pub item_more : {X : Type 0} (f : X → List ℕ) (xs : List X) (k : ℕ) (d : X) → k < length xs → flat_map f (take (k + 1) xs) ≡ flat_map f (take k xs) ++ f (get_or xs k d)
item_more f xs k d lt =
    ap (flat_map f) (take_more xs k d lt) ∙ flat_map-append f (take k xs) (get_or xs k d ∷ []) ∙ ap (λ (z : List ℕ). flat_map f (take k xs) ++ z) (append-nil (f (get_or xs k d)))

-- two parts of a list, and their texts
pub split_parts : {X : Type 0} (n : ℕ) (xs few after : List X) → few ≡ take n xs → after ≡ drop n xs → xs ≡ few ++ after
split_parts n xs few after f a = rw (f, a) (sym (take-append-drop n xs))

pub item_parts : {X : Type 0} (f : X → List ℕ) (n : ℕ) (xs few after : List X) → few ≡ take n xs → after ≡ drop n xs → flat_map f xs ≡ flat_map f few ++ flat_map f after
item_parts f n xs few after e a = ap (flat_map f) (split_parts n xs few after e a) ∙ flat_map-append f few after

-- all elements of a list of two, and of three
pub two_of : {X : Type 0} (xs : List X) (d : X) → 2 ≤ length xs → length xs < 3 → get_or xs 0 d ∷ get_or xs 1 d ∷ [] ≡ xs
two_of [] d least most = absurd (omega (arith, least))
two_of (a ∷ []) d least most = absurd (omega (arith, least))
two_of (a ∷ b ∷ []) d least most = refl
two_of (a ∷ b ∷ c ∷ more) d least most = absurd (omega (arith, most))

pub three_of : {X : Type 0} (xs : List X) (d : X) → 3 ≤ length xs → length xs < 4 → get_or xs 0 d ∷ get_or xs 1 d ∷ get_or xs 2 d ∷ [] ≡ xs
three_of [] d least most = absurd (omega (arith, least))
three_of (a ∷ []) d least most = absurd (omega (arith, least))
three_of (a ∷ b ∷ []) d least most = absurd (omega (arith, least))
three_of (a ∷ b ∷ c ∷ []) d least most = refl
three_of (a ∷ b ∷ c ∷ e ∷ more) d least most = absurd (omega (arith, most))

-- two elements more
pub take_two : {X : Type 0} (xs : List X) (k : ℕ) (d : X) → 2 * k + 1 < length xs → take (2 * (k + 1)) xs ≡ take (2 * k) xs ++ (get_or xs (2 * k) d ∷ get_or xs (2 * k + 1) d ∷ [])
take_two {X = X} xs k d lt =
    let same : 2 * (k + 1) ≡ 2 * k + 1 + 1 = omega arith in
    let first : 2 * k < length xs = omega (arith, lt) in
    ap (λ n. take n xs) same ∙ take_more xs (2 * k + 1) d lt ∙ ap (λ (z : List X). z ++ (get_or xs (2 * k + 1) d ∷ [])) (take_more xs (2 * k) d first) ∙ append_assoc (take (2 * k) xs) (get_or xs (2 * k) d ∷ []) (get_or xs (2 * k + 1) d ∷ [])

-- the number field of a unit
pub field_is : (xs : List ℕ) (k : ℕ) → 2 * k + 1 < length xs → from_le_bytes w16 (take 2 (drop (2 * k) xs)) ≡ get_or xs (2 * k) 0 + 256 * get_or xs (2 * k + 1) 0
field_is xs k lt =
    let first : 2 * k < length xs = omega (arith, lt) in
    let two : drop (2 * k) xs ≡ get_or xs (2 * k) 0 ∷ get_or xs (2 * k + 1) 0 ∷ drop (2 * k + 1 + 1) xs = drop_more xs (2 * k) 0 first ∙ ap (λ l. get_or xs (2 * k) 0 ∷ l) (drop_more xs (2 * k + 1) 0 lt) in
    ap (λ l. from_le_bytes w16 (take 2 l)) two ∙ pair (get_or xs (2 * k) 0) (get_or xs (2 * k + 1) 0)
  where
    pair : (a b : ℕ) → from_le_bytes w16 (a ∷ b ∷ []) ≡ a + 256 * b
    pair a b = omega arith

-- pairs, and one element behind them
pub pairs_and_one : {X : Type 0} (xs : List X) (d : X) → length xs % 2 ≡ 1 → xs ≡ take (2 * (length xs / 2)) xs ++ (get_or xs (length xs - 1) d ∷ [])
pairs_and_one xs d odd =
    let at : length xs - 1 ≡ 2 * (length xs / 2) = omega (arith, odd) in
    let lt : length xs - 1 < length xs = omega (arith, odd) in
    let whole : length xs ≤ length xs - 1 + 1 = omega arith in
    sym (take_all (length xs - 1 + 1) xs whole) ∙ take_more xs (length xs - 1) d lt ∙ ap (λ n. take n xs ++ (get_or xs (length xs - 1) d ∷ [])) at

-- all pieces are those up to one, that one, and others
pub joined_parts : (part : ℕ → List ℕ) (k count : ℕ) → k < count → (z : List ℕ) × (joined part count ≡ joined part k ++ (part k ++ z))
joined_parts part k zero lt = absurd (omega (arith, lt))
joined_parts part k (suc count) lt = elim (cases_lt k count) [
  | inl h ↦ let p = joined_parts part k count h in
      (p.0 ++ part count, ap (λ (z : List ℕ). z ++ part count) p.1 ∙ append_assoc (joined part k) (part k ++ p.0) (part count) ∙ ap (λ (z : List ℕ). joined part k ++ z) (append_assoc (part k) p.0 (part count)))
  | inr h ↦ let e : count ≡ k = omega arith in rw e ([], ap (λ (z : List ℕ). joined part k ++ z) (sym (append-nil (part k))))
]
