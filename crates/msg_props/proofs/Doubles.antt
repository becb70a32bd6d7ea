-- Properties in order of arrival, and one more.
use Rattle.std.proofs.Common.{◌≡◌, ◌⊎◌, inl, inr, ℕ, zero, suc, ◌<◌, List, [], ◌∷◌, ◌++◌, length, take, get_or, Some, refl, sym, ap, subst, ◌∙◌, arith}
use Rattle.std.specs.Prelude.{slice_get}
use Rattle.std.specs.declared.cmp.Ordering.TheVariants.{Equal}
use Rattle.std.proofs.lemmas.List.{length-append, get_or_append_left, get_or-append-add, take-append-le, take_at}
use Rattle.carrier_model.specs.Values.{Prop, prop_cmp}
use Rattle.prop_values.specs.Ends.{HasPairOf}
use Rattle.prop_values.specs.Arrivals.{AreDifferent, IsFirstDouble}

pub slice_get-append : {A : Type 0} (xs ys : List A) (i : ℕ) → i < length xs → slice_get (xs ++ ys) i ≡ slice_get xs i
slice_get-append [] ys i h = absurd (omega (arith, h))
slice_get-append (x ∷ xs) ys zero h = refl
slice_get-append (x ∷ xs) ys (suc i) h = slice_get-append xs ys i (omega (arith, h))

-- what is at the seam
pub slice_get-seam : {A : Type 0} (xs : List A) (x : A) (k : ℕ) → k ≡ length xs → slice_get (xs ++ x ∷ []) k ≡ Some x
slice_get-seam [] x zero e = refl
slice_get-seam [] x (suc k) e = absurd (omega arith)
slice_get-seam (y ∷ xs) x zero e = absurd (omega arith)
slice_get-seam (y ∷ xs) x (suc k) e = slice_get-seam xs x k (omega arith)

pub different_front : (ps : List Prop) (p : Prop) → AreDifferent (ps ++ p ∷ []) → AreDifferent ps
different_front ps p h i j d lt in_range =
    let there : j < length (ps ++ p ∷ []) = omega (arith, length-append ps (p ∷ [])) in
    subst (λ (q : Prop). prop_cmp (get_or ps i d) q ≡ Equal → ⊥) (get_or_append_left ps (p ∷ []) d j in_range)
    (subst (λ (q : Prop). prop_cmp q (get_or (ps ++ p ∷ []) j d) ≡ Equal → ⊥) (get_or_append_left ps (p ∷ []) d i (omega arith)) (h i j d lt there))

pub different_last : (ps : List Prop) (p : Prop) → AreDifferent (ps ++ p ∷ []) → HasPairOf ps p → ⊥
different_last ps p h (i, q, lt, e, same) =
    let there : length ps < length (ps ++ p ∷ []) = omega (arith, length-append ps (p ∷ [])) in
    let apart = h i (length ps) q lt there in
    let one : get_or (ps ++ p ∷ []) i q ≡ q = get_or_append_left ps (p ∷ []) q i lt ∙ e in
    let other : get_or (ps ++ p ∷ []) (length ps) q ≡ p = subst (λ (n : ℕ). get_or (ps ++ p ∷ []) n q ≡ p) (omega arith) (get_or-append-add ps (p ∷ []) 0 q) in
    subst (λ (z : Prop). prop_cmp q z ≡ Equal → ⊥) other (subst (λ (z : Prop). prop_cmp z (get_or (ps ++ p ∷ []) (length ps) q) ≡ Equal → ⊥) one apart) same

below_or_at : (a b : ℕ) → a < suc b → (a < b) ⊎ (a ≡ b)
below_or_at zero zero lt = inr refl
below_or_at zero (suc b) lt = inl (omega arith)
below_or_at (suc a) zero lt = absurd (omega arith)
below_or_at (suc a) (suc b) lt = elim (below_or_at a b (omega arith)) [
  | inl less ↦ inl (omega arith)
  | inr e ↦ inr (ap suc e)
]

-- the first double of some and one more is that of the some, or the one more
pub first_double_push : (ps : List Prop) (p : Prop) (k : ℕ) → IsFirstDouble (ps ++ p ∷ []) k → IsFirstDouble ps k ⊎ ((k ≡ length ps) × AreDifferent ps × HasPairOf ps p)
first_double_push ps p k d = by (below_or_at k (length ps) (omega (arith, d.in_range, length-append ps (p ∷ []))))
  where
    by : (k < length ps) ⊎ (k ≡ length ps) → IsFirstDouble ps k ⊎ ((k ≡ length ps) × AreDifferent ps × HasPairOf ps p)
    by (inl lt) =
        let front : take k (ps ++ p ∷ []) ≡ take k ps = take-append-le k ps (p ∷ []) (omega arith) in
        inl (record {
          in_range = lt;
          prop = d.prop;
          here = sym (slice_get-append ps (p ∷ []) k lt) ∙ d.here;
          double = subst (λ (l : List Prop). HasPairOf l d.prop) front d.double;
          before = subst AreDifferent front d.before;
        })
    by (inr e) =
        let front : take k (ps ++ p ∷ []) ≡ ps = take_at ps (p ∷ []) k (sym e) in
        let seen : Some d.prop ≡ Some p = sym d.here ∙ slice_get-seam ps p k e in
        let same : d.prop ≡ p = cc in
        inr (e, subst AreDifferent front d.before, subst (λ (q : Prop). HasPairOf ps q) same (subst (λ (l : List Prop). HasPairOf l d.prop) front d.double))
