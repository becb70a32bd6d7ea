-- Paths, name by name.
use Rattle.std.proofs.Common.{◌≡◌, ◌∙◌, refl, sym, ap, ℕ, zero, suc, ◌+◌, ◌≤◌, ◌<◌, Bool, true, false, List, [], ◌∷◌, length, drop, get_or, Less, Equal, Greater, arith}
use Rattle.std.specs.Prelude.{◌&&◌, bytes_eq, nat_lt}
use Rattle.std.proofs.lemmas.Bool.Decides.{nat_tests}
use Rattle.std.specs.Cmp.Lexicographic.{slice_cmp}
use Rattle.std.specs.Ordering.{is_lt, ordering_then}
use Rattle.carrier_model.specs.FileTrees.{sibling_cmp}
use Rattle.json_model.specs.StoreForms as plain

-- ---- which path comes first

paths_step : (one other : List (List ℕ)) (k : ℕ) (x y : List ℕ) → k < length one → k < length other → x ≡ get_or one k x → y ≡ get_or other k y
    → slice_cmp sibling_cmp (drop k one) (drop k other) ≡ ordering_then (sibling_cmp x y) (slice_cmp sibling_cmp (drop (k + 1) one) (drop (k + 1) other))
paths_step [] other k x y a b p q = absurd (omega (arith, a))
paths_step (v ∷ one) [] k x y a b p q = absurd (omega (arith, b))
paths_step (v ∷ one) (w ∷ other) zero x y a b p q = λ i. ordering_then (sibling_cmp (sym p i) (sym q i)) (slice_cmp sibling_cmp one other)
paths_step (v ∷ one) (w ∷ other) (suc k) x y a b p q = let e : suc k + 1 ≡ suc (k + 1) = omega arith in rw e (paths_step one other k x y (omega (arith, a)) (omega (arith, b)) p q)

abbrev pub before_from : List (List ℕ) → List (List ℕ) → ℕ → Bool
before_from one other k = is_lt (slice_cmp sibling_cmp (drop k one) (drop k other))

module _ (one other : List (List ℕ)) (k : ℕ) (x y : List ℕ) (a : k < length one) (b : k < length other) (p : x ≡ get_or one k x) (q : y ≡ get_or other k y) where
  pub before_less : Less ≡ sibling_cmp x y → before_from one other k ≡ true
  before_less h = ap is_lt (paths_step one other k x y a b p q ∙ ap (λ o. ordering_then o (slice_cmp sibling_cmp (drop (k + 1) one) (drop (k + 1) other))) (sym h))

  pub before_greater : Greater ≡ sibling_cmp x y → before_from one other k ≡ false
  before_greater h = ap is_lt (paths_step one other k x y a b p q ∙ ap (λ o. ordering_then o (slice_cmp sibling_cmp (drop (k + 1) one) (drop (k + 1) other))) (sym h))

  pub before_equal : Equal ≡ sibling_cmp x y → before_from one other k ≡ before_from one other (k + 1)
  before_equal h = ap is_lt (paths_step one other k x y a b p q ∙ ap (λ o. ordering_then o (slice_cmp sibling_cmp (drop (k + 1) one) (drop (k + 1) other))) (sym h))

past_none : (one : List (List ℕ)) (k : ℕ) → k < length one → is_lt (slice_cmp sibling_cmp (drop k one) []) ≡ false
past_none [] k a = absurd (omega (arith, a))
past_none (v ∷ one) zero a = refl
past_none (v ∷ one) (suc k) a = past_none one k (omega (arith, a))

end_none : (one : List (List ℕ)) (k : ℕ) → k ≡ length one → is_lt (slice_cmp sibling_cmp (drop k one) []) ≡ false
end_none [] zero e = refl
end_none [] (suc k) e = refl
end_none (v ∷ one) zero e = absurd (omega (arith, e))
end_none (v ∷ one) (suc k) e = end_none one k (omega (arith, e))

-- the other path has ended
pub before_past : (one other : List (List ℕ)) (k : ℕ) → k < length one → length other ≤ k → before_from one other k ≡ false
before_past [] other k a b = absurd (omega (arith, a))
before_past (v ∷ one) [] zero a b = refl
before_past (v ∷ one) [] (suc k) a b = past_none one k (omega (arith, a))
before_past (v ∷ one) (w ∷ other) zero a b = absurd (omega (arith, b))
before_past (v ∷ one) (w ∷ other) (suc k) a b = before_past one other k (omega (arith, a)) (omega (arith, b))

-- the first path has ended, and the other goes on, or not
before_end : (one other : List (List ℕ)) (k : ℕ) → k ≡ length one → length one < length other → before_from one other k ≡ true
before_end [] [] k e lt = absurd (omega (arith, lt))
before_end [] (w ∷ other) zero e lt = refl
before_end [] (w ∷ other) (suc k) e lt = absurd (omega (arith, e))
before_end (v ∷ one) [] k e lt = absurd (omega (arith, lt))
before_end (v ∷ one) (w ∷ other) zero e lt = absurd (omega (arith, e))
before_end (v ∷ one) (w ∷ other) (suc k) e lt = before_end one other k (omega (arith, e)) (omega (arith, lt))

before_both_end : (one other : List (List ℕ)) (k : ℕ) → k ≡ length one → length other ≤ length one → before_from one other k ≡ false
before_both_end [] [] zero e le = refl
before_both_end [] [] (suc k) e le = refl
before_both_end [] (w ∷ other) k e le = absurd (omega (arith, le))
before_both_end (v ∷ one) [] zero e le = absurd (omega (arith, e))
before_both_end (v ∷ one) [] (suc k) e le = end_none one k (omega (arith, e))
before_both_end (v ∷ one) (w ∷ other) zero e le = absurd (omega (arith, e))
before_both_end (v ∷ one) (w ∷ other) (suc k) e le = before_both_end one other k (omega (arith, e)) (omega (arith, le))

pub before_whole : (one other : List (List ℕ)) (k : ℕ) → k ≡ length one → nat_lt (length one) (length other) ≡ before_from one other k
before_whole one other k e = by (nat_lt (length one) (length other)) refl
  where
    by : (b : Bool) → nat_lt (length one) (length other) ≡ b → b ≡ before_from one other k
    by true h = let lt : length one < length other = grind (arith, nat_tests) in sym (before_end one other k e lt)
    by false h = let le : length other ≤ length one = grind (arith, nat_tests) in sym (before_both_end one other k e le)

-- ---- whether one leads to the other

abbrev leads : List (List ℕ) → List (List ℕ) → Bool
leads [] other = true
leads (v ∷ one) [] = false
leads (v ∷ one) (w ∷ other) = bytes_eq v w && leads one other

leads_is : (one other : List (List ℕ)) → plain.leads_to one other ≡ leads one other
leads_is [] other = refl
leads_is (v ∷ one) [] = refl
leads_is (v ∷ one) (w ∷ other) = ap (λ b. bytes_eq v w && b) (leads_is one other)

abbrev pub leads_from : List (List ℕ) → List (List ℕ) → ℕ → Bool
leads_from one other k = leads (drop k one) (drop k other)

pub leads_whole : (one other : List (List ℕ)) → plain.leads_to one other ≡ leads_from one other 0
leads_whole one other = leads_is one other

leads_too_long : (one other : List (List ℕ)) → length other < length one → leads one other ≡ false
leads_too_long [] other lt = absurd (omega (arith, lt))
leads_too_long (v ∷ one) [] lt = refl
leads_too_long (v ∷ one) (w ∷ other) lt = by (bytes_eq v w) (leads_too_long one other (omega (arith, lt)))
  where
    by : (b : Bool) {c : Bool} → c ≡ false → (b && c) ≡ false
    by true e = e
    by false e = refl

pub leads_long : (one other : List (List ℕ)) → length other < length one → plain.leads_to one other ≡ false
leads_long one other lt = leads_is one other ∙ leads_too_long one other lt

pub leads_step : (one other : List (List ℕ)) (k : ℕ) (x y : List ℕ) → k < length one → k < length other → x ≡ get_or one k x → y ≡ get_or other k y → leads_from one other k ≡ (bytes_eq x y && leads_from one other (k + 1))
leads_step [] other k x y a b p q = absurd (omega (arith, a))
leads_step (v ∷ one) [] k x y a b p q = absurd (omega (arith, b))
leads_step (v ∷ one) (w ∷ other) zero x y a b p q = λ i. bytes_eq (sym p i) (sym q i) && leads one other
leads_step (v ∷ one) (w ∷ other) (suc k) x y a b p q = let e : suc k + 1 ≡ suc (k + 1) = omega arith in rw e (leads_step one other k x y (omega (arith, a)) (omega (arith, b)) p q)

pub leads_end : (one other : List (List ℕ)) (k : ℕ) → length one ≤ k → leads_from one other k ≡ true
leads_end [] other zero le = refl
leads_end [] other (suc k) le = refl
leads_end (v ∷ one) other zero le = absurd (omega (arith, le))
leads_end (v ∷ one) [] (suc k) le = by one k (omega (arith, le))
  where
    by : (one : List (List ℕ)) (k : ℕ) → length one ≤ k → leads (drop k one) [] ≡ true
    by [] zero le = refl
    by [] (suc k) le = refl
    by (v ∷ one) zero le = absurd (omega (arith, le))
    by (v ∷ one) (suc k) le = by one k (omega (arith, le))
leads_end (v ∷ one) (w ∷ other) (suc k) le = leads_end one other k (omega (arith, le))
