-- Lists in chunks, one behind the other.
use Rattle.std.proofs.Common.{◌≡◌, ℕ, zero, suc, ◌+◌, ◌<◌, length, List, [], ◌∷◌, ◌++◌, take, drop, map, get_or, refl, ap, sym, ◌∙◌, arith, append_assoc, length-append}
use Rattle.std.specs.Prelude.{Option, Some, None, Ok, slice_get, slice_set}
use Rattle.std.specs.List.{flat_map, remove}
use Rattle.std.proofs.lemmas.List.{drop-drop}
use Rattle.carrier_model.proofs.Trees.{drop_at}
use Rattle.edit_model.specs.Edits.{dropped_at, there, ◌>>=◌}

get_front : {A : Type 0} (a b : List A) (k : ℕ) → k < length a → slice_get (a ++ b) k ≡ slice_get a k
get_front [] b k lt = absurd (omega (arith, lt))
get_front (x ∷ a) b zero lt = refl
get_front (x ∷ a) b (suc k) lt = get_front a b k (omega (arith, lt))

get_behind : {A : Type 0} (a b : List A) (k n : ℕ) → n ≡ length a + k → slice_get (a ++ b) n ≡ slice_get b k
get_behind [] b k n is = let same : n ≡ k = omega (arith, is) in ap (slice_get b) same
get_behind (x ∷ a) b k zero is = absurd (omega (arith, is))
get_behind (x ∷ a) b k (suc n) is = get_behind a b k n (omega (arith, is))

remove_front : {A : Type 0} (a b : List A) (k : ℕ) → k < length a → remove (a ++ b) k ≡ remove a k ++ b
remove_front [] b k lt = absurd (omega (arith, lt))
remove_front (x ∷ a) b zero lt = refl
remove_front (x ∷ a) b (suc k) lt = ap (λ l. x ∷ l) (remove_front a b k (omega (arith, lt)))

remove_behind : {A : Type 0} (a b : List A) (k n : ℕ) → n ≡ length a + k → remove (a ++ b) n ≡ a ++ remove b k
remove_behind [] b k n is = let same : n ≡ k = omega (arith, is) in ap (remove b) same
remove_behind (x ∷ a) b k zero is = absurd (omega (arith, is))
remove_behind (x ∷ a) b k (suc n) is = ap (λ l. x ∷ l) (remove_behind a b k n (omega (arith, is)))

set_front : {A : Type 0} (a b : List A) (k : ℕ) (x : A) → k < length a → slice_set (a ++ b) k x ≡ slice_set a k x ++ b
set_front [] b k x lt = absurd (omega (arith, lt))
set_front (y ∷ a) b zero x lt = refl
set_front (y ∷ a) b (suc k) x lt = ap (λ l. y ∷ l) (set_front a b k x (omega (arith, lt)))

set_behind : {A : Type 0} (a b : List A) (k n : ℕ) (x : A) → n ≡ length a + k → slice_set (a ++ b) n x ≡ a ++ slice_set b k x
set_behind [] b k n x is = let same : n ≡ k = omega (arith, is) in ap (λ m. slice_set b m x) same
set_behind (y ∷ a) b k zero x is = absurd (omega (arith, is))
set_behind (y ∷ a) b k (suc n) x is = ap (λ l. y ∷ l) (set_behind a b k n x (omega (arith, is)))

module _ {X A : Type 0} (f : X → List A) where
  -- in the chunk of a number
  pub chunk_get : (xs : List X) (last : List A) (at left n : ℕ) (x : X) → slice_get xs at ≡ Some x → left < length (f x) → length (flat_map f (take at xs)) + left ≡ n → slice_get (flat_map f xs ++ last) n ≡ slice_get (f x) left
  chunk_get [] last at left n x is lt sum = absurd cc
  chunk_get (y ∷ xs) last zero left n x is lt sum =
      let same : y ≡ x = cc in
      let here : n ≡ left = omega (arith, sum) in
      ap (slice_get ((f y ++ flat_map f xs) ++ last)) here
      ∙ (ap (λ l. slice_get l left) (append_assoc (f y) (flat_map f xs) last)
      ∙ (ap (λ z. slice_get (f z ++ (flat_map f xs ++ last)) left) same ∙ get_front (f x) (flat_map f xs ++ last) left lt))
  chunk_get (y ∷ xs) last (suc at) left n x is lt sum =
      let k : ℕ = length (flat_map f (take at xs)) + left in
      let here : n ≡ length (f y) + k = omega (arith, sum, length-append (f y) (flat_map f (take at xs))) in
      ap (λ l. slice_get l n) (append_assoc (f y) (flat_map f xs) last)
      ∙ (get_behind (f y) (flat_map f xs ++ last) k n here ∙ chunk_get xs last at left k x is lt refl)

  pub chunk_remove : (xs : List X) (last : List A) (at left n : ℕ) (x z : X) → slice_get xs at ≡ Some x → left < length (f x) → length (flat_map f (take at xs)) + left ≡ n → f z ≡ remove (f x) left → flat_map f (slice_set xs at z) ++ last ≡ remove (flat_map f xs ++ last) n
  chunk_remove [] last at left n x z is lt sum gone = absurd cc
  chunk_remove (y ∷ xs) last zero left n x z is lt sum gone =
      let same : y ≡ x = cc in
      let here : n ≡ left = omega (arith, sum) in
      append_assoc (f z) (flat_map f xs) last
      ∙ (ap (λ l. l ++ (flat_map f xs ++ last)) gone
      ∙ sym (ap (remove ((f y ++ flat_map f xs) ++ last)) here
      ∙ (ap (λ l. remove l left) (append_assoc (f y) (flat_map f xs) last)
      ∙ (ap (λ w. remove (f w ++ (flat_map f xs ++ last)) left) same ∙ remove_front (f x) (flat_map f xs ++ last) left lt))))
  chunk_remove (y ∷ xs) last (suc at) left n x z is lt sum gone =
      let k : ℕ = length (flat_map f (take at xs)) + left in
      let here : n ≡ length (f y) + k = omega (arith, sum, length-append (f y) (flat_map f (take at xs))) in
      append_assoc (f y) (flat_map f (slice_set xs at z)) last
      ∙ (ap (λ l. f y ++ l) (chunk_remove xs last at left k x z is lt refl gone)
      ∙ sym (ap (λ l. remove l n) (append_assoc (f y) (flat_map f xs) last) ∙ remove_behind (f y) (flat_map f xs ++ last) k n here))

  pub chunk_set : (xs : List X) (last : List A) (at left n : ℕ) (x z : X) (a : A) → slice_get xs at ≡ Some x → left < length (f x) → length (flat_map f (take at xs)) + left ≡ n → f z ≡ slice_set (f x) left a → flat_map f (slice_set xs at z) ++ last ≡ slice_set (flat_map f xs ++ last) n a
  chunk_set [] last at left n x z a is lt sum made = absurd cc
  chunk_set (y ∷ xs) last zero left n x z a is lt sum made =
      let same : y ≡ x = cc in
      let here : n ≡ left = omega (arith, sum) in
      append_assoc (f z) (flat_map f xs) last
      ∙ (ap (λ l. l ++ (flat_map f xs ++ last)) made
      ∙ sym (ap (λ m. slice_set ((f y ++ flat_map f xs) ++ last) m a) here
      ∙ (ap (λ l. slice_set l left a) (append_assoc (f y) (flat_map f xs) last)
      ∙ (ap (λ w. slice_set (f w ++ (flat_map f xs ++ last)) left a) same ∙ set_front (f x) (flat_map f xs ++ last) left a lt))))
  chunk_set (y ∷ xs) last (suc at) left n x z a is lt sum made =
      let k : ℕ = length (flat_map f (take at xs)) + left in
      let here : n ≡ length (f y) + k = omega (arith, sum, length-append (f y) (flat_map f (take at xs))) in
      append_assoc (f y) (flat_map f (slice_set xs at z)) last
      ∙ (ap (λ l. f y ++ l) (chunk_set xs last at left k x z a is lt refl made)
      ∙ sym (ap (λ l. slice_set l n a) (append_assoc (f y) (flat_map f xs) last) ∙ set_behind (f y) (flat_map f xs ++ last) k n a here))

-- in the last chunk
pub last_get : {A : Type 0} (a b : List A) (left n : ℕ) → length a + left ≡ n → slice_get (a ++ b) n ≡ slice_get b left
last_get a b left n sum = get_behind a b left n (sym sum)

pub last_remove : {A : Type 0} (a b : List A) (left n : ℕ) → length a + left ≡ n → a ++ remove b left ≡ remove (a ++ b) n
last_remove a b left n sum = sym (remove_behind a b left n (sym sum))

pub last_set : {A : Type 0} (a b : List A) (left n : ℕ) (x : A) → length a + left ≡ n → a ++ slice_set b left x ≡ slice_set (a ++ b) n x
last_set a b left n x sum = sym (set_behind a b left n x (sym sum))

pub at_place : {A : Type 0} (xs : List A) (k : ℕ) (x : A) → k < length xs → x ≡ get_or xs k x → slice_get xs k ≡ Some x
at_place [] k x lt is = absurd (omega (arith, lt))
at_place (y ∷ xs) zero x lt is = ap Some (sym is)
at_place (y ∷ xs) (suc k) x lt is = at_place xs k x (omega (arith, lt)) is

-- ---- the elements of a list as they are taken out one after another

take_next : {A : Type 0} (k : ℕ) (m zs : List A) (x : A) → drop k m ≡ x ∷ zs → take (suc k) m ≡ take k m ++ x ∷ []
take_next zero [] zs x is = absurd cc
take_next (suc k) [] zs x is = absurd cc
take_next zero (y ∷ m) zs x is = let same : y ≡ x = cc in ap (λ z. z ∷ []) same
take_next (suc k) (y ∷ m) zs x is = ap (λ l. y ∷ l) (take_next k m zs x is)

behind_set : {A : Type 0} (l : List A) (k : ℕ) (y : A) → drop (suc k) (slice_set l k y) ≡ drop (suc k) l
behind_set [] zero y = refl
behind_set [] (suc k) y = refl
behind_set (z ∷ l) zero y = refl
behind_set (z ∷ l) (suc k) y = behind_set l k y

pub next_out : {A : Type 0} (l m : List A) (k : ℕ) (x y : A) → slice_get l k ≡ Some x → drop k l ≡ drop k m → (take (k + 1) m ≡ take k m ++ x ∷ []) × (drop (k + 1) (slice_set l k y) ≡ drop (k + 1) m)
next_out l m k x y at same =
    let one : suc k ≡ k + 1 = omega arith in
    let rest : drop k m ≡ x ∷ drop (k + 1) l = sym same ∙ drop_at l k x at in
    let left : drop (k + 1) m ≡ drop (k + 1) l = sym (drop-drop 1 k m) ∙ ap (drop 1) rest in
    (ap (λ n. take n m) (sym one) ∙ take_next k m (drop (k + 1) l) x rest, ap (λ n. drop n (slice_set l k y)) (sym one) ∙ (behind_set l k y ∙ (ap (λ n. drop n l) one ∙ sym left)))

-- ---- through a map

pub map-remove : {A B : Type 0} (f : A → B) (l : List A) (k : ℕ) → map f (remove l k) ≡ remove (map f l) k
map-remove f [] zero = refl
map-remove f [] (suc k) = refl
map-remove f (x ∷ l) zero = refl
map-remove f (x ∷ l) (suc k) = ap (λ m. f x ∷ m) (map-remove f l k)

pub map_get : {A B : Type 0} (f : A → B) (l : List A) (k : ℕ) (x : A) → slice_get l k ≡ Some x → slice_get (map f l) k ≡ Some (f x)
map_get f [] k x is = absurd cc
map_get f (y ∷ l) zero x is = let same : y ≡ x = cc in ap (λ z. Some (f z)) same
map_get f (y ∷ l) (suc k) x is = map_get f l k x is

-- without an element, or where there is none of its number
pub dropped_map : {A B : Type 0} (f : A → B) (k : ℕ) (xs ys : List A) → dropped_at k xs ≡ Ok ys → dropped_at k (map f xs) ≡ Ok (map f ys)
dropped_map {A = A} f k xs ys is = by (slice_get xs k) refl is
  where
    by : (o : Option A) → slice_get xs k ≡ o → (there o >>= (λ x. Ok (remove xs k))) ≡ Ok ys → dropped_at k (map f xs) ≡ Ok (map f ys)
    by None at h = absurd cc
    by (Some x) at h =
        let same : remove xs k ≡ ys = cc in
        rw (map_get f xs k x at) (ap Ok (sym (map-remove f xs k) ∙ ap (map f) same))
