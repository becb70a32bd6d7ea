-- A list whose elements are made anew where they stand, one after another.
use Rattle.std.proofs.Common.{◌≡◌, ◌∙◌, refl, sym, ap, ℕ, zero, suc, ◌+◌, List, [], ◌∷◌, ◌++◌, take, drop, map, length, arith}
use Rattle.std.specs.Prelude.{Some, slice_get, slice_set}
use Rattle.std.proofs.lemmas.List.{set-set}

-- the first k of them are new
abbrev pub made_to : {A : Type 0} → (A → A) → List A → ℕ → List A
made_to f xs k = map f (take k xs) ++ drop k xs

there : {A : Type 0} (f : A → A) (xs : List A) (k : ℕ) → slice_get (made_to f xs k) k ≡ slice_get xs k
there f [] zero = refl
there f [] (suc k) = refl
there f (x ∷ xs) zero = refl
there f (x ∷ xs) (suc k) = there f xs k

set_next : {A : Type 0} (f : A → A) (xs : List A) (k : ℕ) (x : A) → slice_get xs k ≡ Some x → slice_set (made_to f xs k) k (f x) ≡ made_to f xs (suc k)
set_next f [] k x at = absurd cc
set_next f (y ∷ xs) zero x at = let same : y ≡ x = cc in ap (λ z. f z ∷ xs) (sym same)
set_next f (y ∷ xs) (suc k) x at = ap (λ l. f y ∷ l) (set_next f xs k x at)

pub made_length : {A : Type 0} (f : A → A) (xs : List A) (k : ℕ) → length (made_to f xs k) ≡ length xs
made_length f [] zero = refl
made_length f [] (suc k) = refl
made_length f (x ∷ xs) zero = refl
made_length f (x ∷ xs) (suc k) = ap (λ n. suc n) (made_length f xs k)

pub made_whole : {A : Type 0} (f : A → A) (xs : List A) → made_to f xs (length xs) ≡ map f xs
made_whole f [] = refl
made_whole f (x ∷ xs) = ap (λ l. f x ∷ l) (made_whole f xs)

-- the next one is the old one
pub next_there : {A : Type 0} (f : A → A) (xs : List A) (k : ℕ) (x : A) (all : List A) → all ≡ made_to f xs k → slice_get all k ≡ Some x → slice_get xs k ≡ Some x
next_there f xs k x all made at = sym (there f xs k) ∙ (ap (λ l. slice_get l k) (sym made) ∙ at)

-- it is taken out, and the new one put in its place
pub next_made : {A : Type 0} (f : A → A) (xs : List A) (k : ℕ) (x y z : A) (all without new : List A) → all ≡ made_to f xs k → slice_get all k ≡ Some x → without ≡ slice_set all k z → new ≡ slice_set without k y → y ≡ f x → new ≡ made_to f xs (k + 1)
next_made f xs k x y z all without new made at out put is =
    let one : suc k ≡ k + 1 = omega arith in
    put ∙ (ap (λ l. slice_set l k y) out ∙ (set-set all k z y ∙ ((λ i. slice_set (made i) k (is i)) ∙ (set_next f xs k x (next_there f xs k x all made at) ∙ ap (made_to f xs) one))))
