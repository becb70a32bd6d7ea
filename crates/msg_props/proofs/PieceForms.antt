-- Lists that loops over streams build.
use Rattle.std.proofs.Common.{◌≡◌, inl, inr, ℕ, suc, ◌+◌, ◌*◌, ◌/◌, ◌<◌, ◌≤◌, List, [], ◌∷◌, ◌++◌, length, map, take, drop, refl, sym, ap, ◌∙◌, arith, drop-cons}
use Rattle.std.specs.Prelude.{All}
use Rattle.std.specs.List.{range_with_len}
use Rattle.std.proofs.lemmas.List.{take-append-drop, length-take, length-drop}
use Rattle.std.proofs.lemmas.List.Elements.{All-push}
use Rattle.std.proofs.lemmas.List.FromFn.{length-map-range_with_len, get_or-map-range_with_len, take-map-range_with_len, map-range_with_len_more}
use Rattle.carrier_model.proofs.ViewLaws.{length-content}
use Rattle.cfb_sectors.specs.Seen.{bytes_of}
use Rattle.cfb_sectors.specs.declared.view.StreamView.{StreamView}
use Rattle.prop_values.specs.Shapes.{IsWidth}

-- the first so many, the next, and the others
pub parted : {A : Type 0} (f : ℕ → A) (k n : ℕ) → k < n → (rest : List A) × (map f (range_with_len 0 n) ≡ map f (range_with_len 0 k) ++ f k ∷ rest)
parted {A} f k n lt =
    let all : List A = map f (range_with_len 0 n) in
    let back : drop k all ≡ f k ∷ drop (suc k) all = drop-cons all k (f k) (omega (arith, length-map-range_with_len f 0 n)) ∙ ap (λ (x : A). x ∷ drop (suc k) all) (get_or-map-range_with_len f 0 n k k (f k) lt (omega arith)) in
    (drop (suc k) all, sym (take-append-drop k all) ∙ ap (λ (z : List A). z ++ drop k all) (take-map-range_with_len f 0 n k (omega arith)) ∙ ap (λ (z : List A). map f (range_with_len 0 k) ++ z) back)

-- one more
pub upto_more : {A : Type 0} (f : ℕ → A) (k : ℕ) → map f (range_with_len 0 (k + 1)) ≡ map f (range_with_len 0 k) ++ f k ∷ []
upto_more f k = map-range_with_len_more f 0 k k (omega arith)

map-push : {A B : Type 0} (h : A → B) (l : List A) (x : A) → map h (l ++ x ∷ []) ≡ map h l ++ h x ∷ []
map-push h [] x = refl
map-push {A} {B} h (y ∷ l) x = ap (λ (z : List B). h y ∷ z) (map-push h l x)

-- a list with what a function makes of each so far, and of one more
pub mapped_more : {A B : Type 0} (h : A → B) (f : ℕ → A) (k : ℕ) (list new : List B) (y : B) → list ≡ map h (map f (range_with_len 0 k)) → y ≡ h (f k) → new ≡ list ++ y ∷ [] → new ≡ map h (map f (range_with_len 0 (k + 1)))
mapped_more {A} {B} h f k list new y e g n =
    n ∙ ap (λ (z : List B). z ++ y ∷ []) e ∙ ap (λ (z : B). map h (map f (range_with_len 0 k)) ++ z ∷ []) g
    ∙ sym (ap (map h) (upto_more f k) ∙ map-push h (map f (range_with_len 0 k)) (f k))

pub pushed : {A : Type 0} (P : A → Type 0) (l new : List A) (x : A) → All P l → P x → new ≡ l ++ x ∷ [] → All P new
pushed {A} P l new x h p e = rw e (All-push P l x h p)

-- a piece of so many bytes
abbrev pub piece : ℕ → List ℕ → ℕ → List ℕ
piece width x i = take width (drop (width * i) x)

pub same_list : {A : Type 0} (l : List A) → map (λ (x : A). x) l ≡ l
same_list [] = refl
same_list {A} (x ∷ l) = ap (λ (z : List A). x ∷ z) (same_list l)

pub piece_inside : (width n k : ℕ) → IsWidth width → k < n / width → width * k + width ≤ n
piece_inside width n k (inl e) lt = let h : k < n / 2 = rw e at lt in let g : 2 * k + 2 ≤ n = omega arith in rw e g
piece_inside width n k (inr (inl e)) lt = let h : k < n / 4 = rw e at lt in let g : 4 * k + 4 ≤ n = omega arith in rw e g
piece_inside width n k (inr (inr e)) lt = let h : k < n / 8 = rw e at lt in let g : 8 * k + 8 ≤ n = omega arith in rw e g

pub piece_length : (width k : ℕ) (x : List ℕ) → width * k + width ≤ length x → length (piece width x k) ≡ width
piece_length width k x le = omega (arith, length-take width (drop (width * k) x), length-drop (width * k) x)

-- ---- views

pub view_length : (v : StreamView) → length (bytes_of v) ≡ v.len
view_length v = length-content v.file.now v.each v.starts.items v.len

pub view_small : (v : StreamView) → length (bytes_of v) < 268435456
view_small v = omega (arith, view_length v, v.small)
