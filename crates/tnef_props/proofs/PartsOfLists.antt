-- Parts of a list.
use Rattle.std.proofs.Common.{◌≡◌, ℕ, zero, suc, ◌+◌, ◌-◌, ◌<◌, List, [], ◌∷◌, Some, take, drop, refl, ap, ◌∙◌, arith}
use Rattle.std.specs.Prelude.{slice_get}
use Rattle.tnef_props.specs.Named.{between}

slice_get-drop : {A : Type 0} (n : ℕ) (xs : List A) (k m : ℕ) → m ≡ n + k → slice_get (drop n xs) k ≡ slice_get xs m
slice_get-drop zero xs k m e = let h : k ≡ m = omega arith in ap (slice_get xs) h
slice_get-drop (suc n) [] k m e = refl
slice_get-drop (suc n) (x ∷ xs) k zero e = absurd (omega arith)
slice_get-drop (suc n) (x ∷ xs) k (suc m) e = slice_get-drop n xs k m (omega arith)

slice_get-take : {A : Type 0} (n : ℕ) (xs : List A) (k : ℕ) → k < n → slice_get (take n xs) k ≡ slice_get xs k
slice_get-take zero xs k lt = absurd (omega arith)
slice_get-take (suc n) [] k lt = refl
slice_get-take (suc n) (x ∷ xs) zero lt = refl
slice_get-take (suc n) (x ∷ xs) (suc k) lt = slice_get-take n xs k (omega arith)

pub between_at : {A : Type 0} (from to : ℕ) (xs : List A) (k : ℕ) (x : A) → k < to - from → slice_get xs (from + k) ≡ Some x → slice_get (between from to xs) k ≡ Some x
between_at from to xs k x lt at = slice_get-take (to - from) (drop from xs) k lt ∙ slice_get-drop from xs k (from + k) refl ∙ at
