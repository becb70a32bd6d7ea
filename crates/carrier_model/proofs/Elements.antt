-- A fact of each element of a list, by a view, and of a list with one more.
use Rattle.std.proofs.Common.{◌≡◌, ℕ, ◌≤◌, ◌+◌, ◌-◌, List, length, get_or, map, ap, ◌∙◌, sym, subst, inl, inr, arith, zero, suc, [], ◌∷◌}
use Rattle.std.proofs.lemmas.Bool.{cases_lt}
use Rattle.std.proofs.lemmas.Option.{slice_get-map, slice_get_within, get_or_from_slice_get}
use Rattle.std.specs.Option.{option_map}
use Rattle.std.specs.Prelude.{All, Some, slice_get}
use Rattle.std.specs.List.{insert, AllByRecursion}
use Rattle.std.proofs.lemmas.List.Edits.{length-insert, get_or-insert_below, get_or-insert_at, get_or-insert_above}

pub all_insert : {A : Type 0} (P : A → Type 0) (xs : List A) (at : ℕ) (x : A) → at ≤ length xs → All P xs → P x → All P (insert xs at x)
all_insert P xs at x fits all here k d lt =
    let long : length (insert xs at x) ≡ length xs + 1 = length-insert xs at x fits in
    elim (cases_lt k at) [
      | inl under ↦ rw (get_or-insert_below xs at x d k under fits) (all k d (omega arith))
      | inr from ↦ elim (cases_lt at k) [
        | inl over ↦ subst P {x = get_or xs (k - 1) d} (sym (subst (λ q. get_or (insert xs at x) q d ≡ get_or xs (k - 1) d) {x = k - 1 + 1} (omega arith) (get_or-insert_above xs at x d (k - 1) (omega arith) fits))) (all (k - 1) d (omega arith))
        | inr to ↦ let e : k ≡ at = omega arith in rw (e, get_or-insert_at xs at x d fits) here
      ]
    ]

-- an element that was read, and the list of the views
pub view_got : {X A : Type 0} (f : X → A) (xs : List X) (i : ℕ) (x : X) → slice_get xs i ≡ Some x → slice_get (map f xs) i ≡ Some (f x)
view_got f xs i x at = slice_get-map f xs i ∙ ap (option_map f) at

pub all_got : {X A : Type 0} (P : A → Type 0) (f : X → A) (xs : List X) (i : ℕ) (x : X) → All P (map f xs) → slice_get xs i ≡ Some x → P (f x)
all_got P f xs i x all at = subst P (get_or_from_slice_get (map f xs) i (f x) (f x) (view_got f xs i x at)) (all i (f x) (slice_get_within (map f xs) i (f x) (view_got f xs i x at)))

pub all_of : {A : Type 0} (P : A → Type 0) (xs : List A) → AllByRecursion P xs → All P xs
all_of P [] h k d lt = absurd (omega (arith, lt))
all_of P (x ∷ xs) h zero d lt = h.0
all_of P (x ∷ xs) h (suc k) d lt = all_of P xs h.1 k d (omega arith)

pub each_map : {A B : Type 0} (P : A → Type 0) (Q : B → Type 0) (f : A → B) → ((x : A) → P x → Q (f x)) → (xs : List A) → AllByRecursion P xs → AllByRecursion Q (map f xs)
each_map P Q f step [] h = tt
each_map P Q f step (x ∷ xs) h = (step x h.0, each_map P Q f step xs h.1)
