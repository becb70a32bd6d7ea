-- Elements of a list that each stand for an element of another.
use Rattle.std.proofs.Common.{◌≡◌, ℕ, zero, suc, ◌≤◌, length, List, [], ◌∷◌, map, refl, ap, sym, ◌∙◌, arith}
use Rattle.std.specs.Prelude.{Result, Ok, Err, Some, slice_get, slice_set}
use Rattle.std.proofs.lemmas.List.{length-map, set-set}
use Rattle.edit_model.specs.Edits.{Why, no_place, changed_at, dropped_at}
use Rattle.tree_edit.proofs.ChunkLists.{dropped_map, map_get}
use Rattle.tree_edit.proofs.Steps.{changed_ok, changed_err, changed_past}

map_set : {A B : Type 0} (f : A → B) (l : List A) (k : ℕ) (x : A) → map f (slice_set l k x) ≡ slice_set (map f l) k (f x)
map_set f [] zero x = refl
map_set f [] (suc k) x = refl
map_set f (y ∷ l) zero x = refl
map_set f (y ∷ l) (suc k) x = ap (λ m. f y ∷ m) (map_set f l k x)

module _ {A B : Type 0} (f : A → B) (k : ℕ) (rows : List A) (all : List B) (are : map f rows ≡ all) where
  -- one is taken out, changed, and put back in the place of what was left for it
  pub changed_row : (change : B → Result B Why) (left put : List A) (x y blank : A) → slice_get rows k ≡ Some x → left ≡ slice_set rows k blank → put ≡ slice_set left k y → change (f x) ≡ Ok (f y) → changed_at change k all ≡ Ok (map f put)
  changed_row change left put x y blank at out back made =
      let whole : put ≡ slice_set rows k y = back ∙ (ap (λ l. slice_set l k y) out ∙ set-set rows k blank y) in
      ap (changed_at change k) (sym are)
      ∙ (changed_ok change k (map f rows) (f x) (f y) (map_get f rows k x at) made
      ∙ ap Ok (sym (ap (map f) whole ∙ map_set f rows k y)))

  pub failed_row : (change : B → Result B Why) (x : A) (why : Why) → slice_get rows k ≡ Some x → change (f x) ≡ Err why → changed_at change k all ≡ Err why
  failed_row change x why at fails = ap (changed_at change k) (sym are) ∙ changed_err change k (map f rows) (f x) why (map_get f rows k x at) fails

  pub no_row : (change : B → Result B Why) → length rows ≤ k → changed_at change k all ≡ Err no_place
  no_row change past = ap (changed_at change k) (sym are) ∙ changed_past change k (map f rows) (omega (arith, past, length-map rows f))

  -- one is taken out, and those behind it move up
  pub dropped_row : (left : List A) → dropped_at k rows ≡ Ok left → dropped_at k all ≡ Ok (map f left)
  dropped_row left is = ap (dropped_at k) (sym are) ∙ dropped_map f k rows left is
