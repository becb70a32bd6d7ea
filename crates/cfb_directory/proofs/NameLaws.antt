-- Names that are looked up among those before them.
use Rattle.std.proofs.Common.{◌≡◌, ℕ, suc, ◌+◌, ◌<◌, ◌≤◌, add-one, List, [], ◌∷◌, ◌++◌, length, get_or, take, drop, map, Bool, true, false, cond, refl, sym, ◌∙◌, ap, subst, Ok, Err, Some, None, Option, Result, inl, inr, nat_eq}
use Rattle.std.specs.Prelude.{IsSome, is_some}
use Rattle.std.specs.BTreeMap.{BTreeMap, get_by, UpdatesBy}
use Rattle.std.specs.Cmp.Lexicographic.{slice_cmp, pointwise}
use Rattle.std.specs.Ordering.{nat_cmp, is_eq}
use Rattle.std.specs.Map.{KeepsOthers, IsKeyTest, AreApart, lookup}
use Rattle.std.proofs.Common.{eqb}
use Rattle.std.proofs.lemmas.Bool.{cases_Bool, cond-true, cond-false, eqb-true}
use Rattle.std.proofs.lemmas.List.Folds.{list_any-append}
use Rattle.std.proofs.lemmas.Cmp.{eq_by_cmp_equiv, nat_list_cmp_total, nat_list_eq_equiv}
use Rattle.std.proofs.Math.Seq.{take-suc, drop-cons}
use Rattle.std.proofs.lemmas.List.{map-append, drop_all}
use Rattle.std.proofs.lemmas.Map.Text.{is_eq-slice_cmp}
use Rattle.std.proofs.lemmas.Slice.Eq.{bytes_eq-Decides}
use Rattle.carrier_model.specs.Trail.{Fault}
use Rattle.carrier_model.specs.Reasons.{DOUBLE_NAME}
use Rattle.carrier_model.specs.Outcomes.{◌>>=◌}
use Rattle.carrier_model.specs.Files.{is_among, family_names, names_of}
use Rattle.carrier_model.specs.Chains.{member}
use Rattle.carrier_model.specs.Links.{Directory}
use Rattle.cfb_directory.specs.Named.{key_of, first_named, are_apart}

apart : (x y k : List ℕ) → pointwise nat_eq x y ≡ false → is_eq (slice_cmp nat_cmp x k) ≡ true → is_eq (slice_cmp nat_cmp y k) ≡ false
apart x y k n h =
    let a : pointwise nat_eq x k ≡ true = sym (is_eq-slice_cmp x k) ∙ h in
    is_eq-slice_cmp y k ∙ (nat_list_eq_equiv.symm y k ∙ (sym (nat_list_eq_equiv.congr x k y a) ∙ n))

other_entries : {K X : Type 0} (eq : K → K → Bool) (test : K → Bool) (old new : List (K × X)) → KeepsOthers eq test old new → (other : K → Bool) → IsKeyTest eq other → AreApart test other → lookup other new ≡ lookup other old
unfolding KeepsOthers
other_entries eq test old new h = h

-- A map by lists of numbers, after a change at one of them.
pub updated : {K X : Type 0} (f : K → List ℕ) (x : List ℕ) (m n : BTreeMap K X) (w : Option X) → UpdatesBy (λ j k. slice_cmp nat_cmp (f j) (f k)) (λ k. slice_cmp nat_cmp x (f k)) m n w → (y : List ℕ) → get_by (λ k. slice_cmp nat_cmp y (f k)) n ≡ cond (pointwise nat_eq x y) w (get_by (λ k. slice_cmp nat_cmp y (f k)) m)
updated f x m n w h y =
    elim (cases_Bool (pointwise nat_eq x y)) [
      | inl same ↦ subst (λ l. get_by (λ k. slice_cmp nat_cmp l (f k)) n ≡ w) ((bytes_eq-Decides x y).0 same) h.1 ∙ sym (cond-true (pointwise nat_eq x y) w _ same)
      | inr other ↦ other_entries _ _ _ _ h.3 _ (λ j k. (eq_by_cmp_equiv nat_list_cmp_total).congr y (f j) (f k)) (λ k. apart x y (f k) other) ∙ sym (cond-false (pointwise nat_eq x y) w _ other)
    ]

among_named : (d : Directory) (q xs : List ℕ) → is_among q (map (key_of d) xs) ≡ is_some (first_named (key_of d) q xs)
among_named d q [] = refl
among_named d q (x ∷ xs) =
    elim (cases_Bool (pointwise nat_eq q (key_of d x))) [
      | inl same ↦ rw same refl
      | inr other ↦ rw other (among_named d q xs)
    ]

named_behind : (d : Directory) (q xs : List ℕ) (x : ℕ) → first_named (key_of d) q (xs ++ x ∷ []) ≡ cond (is_some (first_named (key_of d) q xs)) (first_named (key_of d) q xs) (cond (pointwise nat_eq q (key_of d x)) (Some x) None)
named_behind d q [] x = refl
named_behind d q (y ∷ xs) x =
    elim (cases_Bool (pointwise nat_eq q (key_of d y))) [
      | inl same ↦ rw same refl
      | inr other ↦ rw other (named_behind d q xs x)
    ]

or_none : (r : Option ℕ) → cond (is_some r) r None ≡ r
or_none None = refl
or_none (Some x) = refl

-- one more entry, whose name none before it has
pub named_more : (d : Directory) (q xs : List ℕ) (x : ℕ) → first_named (key_of d) (key_of d x) xs ≡ None → first_named (key_of d) q (xs ++ x ∷ []) ≡ cond (pointwise nat_eq (key_of d x) q) (Some x) (first_named (key_of d) q xs)
named_more d q xs x none =
    named_behind d q xs x ∙ elim (cases_Bool (pointwise nat_eq (key_of d x) q)) [
      | inl same ↦
          let there : pointwise nat_eq q (key_of d x) ≡ true = nat_list_eq_equiv.symm q (key_of d x) ∙ same in
          let absent : first_named (key_of d) q xs ≡ None = subst (λ l. first_named (key_of d) l xs ≡ None) ((bytes_eq-Decides (key_of d x) q).0 same) none in
          rw (absent, there, same) refl
      | inr other ↦
          let away : pointwise nat_eq q (key_of d x) ≡ false = nat_list_eq_equiv.symm q (key_of d x) ∙ other in
          rw (away, other) (or_none (first_named (key_of d) q xs))
    ]

-- The steps of the test of some names.
pub name_step : (d : Directory) (before rest : List ℕ) (x : ℕ) (w : Result (Unit {0}) Fault) → w ≡ family_names d (x ∷ rest) (map (key_of d) before) → first_named (key_of d) (key_of d x) before ≡ None → w ≡ family_names d rest (map (key_of d) before ++ key_of d x ∷ [])
unfolding family_names
name_step d before rest x w is none = is ∙ rw (among_named d (key_of d x) before, none) refl

pub name_stop : (d : Directory) (before rest : List ℕ) (x : ℕ) (w : Result (Unit {0}) Fault) → w ≡ family_names d (x ∷ rest) (map (key_of d) before) → IsSome (first_named (key_of d) (key_of d x) before) → w ≡ Err (DOUBLE_NAME, d.place x)
unfolding family_names
name_stop d before rest x w is some = is ∙ rw (among_named d (key_of d x) before, some) refl

-- the same over a list by an index
pub family_step : (d : Directory) (family : List ℕ) (i : ℕ) (w : Result (Unit {0}) Fault) → i < length family → w ≡ family_names d (drop i family) (map (key_of d) (take i family)) → first_named (key_of d) (key_of d (get_or family i 0)) (take i family) ≡ None → w ≡ family_names d (drop (i + 1) family) (map (key_of d) (take (i + 1) family))
family_step d family i w below is none =
    rw (add-one, take-suc family i 0 below, map-append (key_of d) (take i family) (get_or family i 0 ∷ []))
    (name_step d (take i family) (drop (suc i) family) (get_or family i 0) w (is ∙ ap (λ l. family_names d l (map (key_of d) (take i family))) (drop-cons family i 0 below)) none)

pub family_stop : (d : Directory) (family : List ℕ) (i : ℕ) (w : Result (Unit {0}) Fault) → i < length family → w ≡ family_names d (drop i family) (map (key_of d) (take i family)) → IsSome (first_named (key_of d) (key_of d (get_or family i 0)) (take i family)) → w ≡ Err (DOUBLE_NAME, d.place (get_or family i 0))
family_stop d family i w below is some =
    name_stop d (take i family) (drop (suc i) family) (get_or family i 0) w (is ∙ ap (λ l. family_names d l (map (key_of d) (take i family))) (drop-cons family i 0 below)) some

pub family_done : (d : Directory) (family : List ℕ) (i : ℕ) (w : Result (Unit {0}) Fault) → length family ≤ i → w ≡ family_names d (drop i family) (map (key_of d) (take i family)) → w ≡ Ok tt
unfolding family_names
family_done d family i w over is = is ∙ ap (λ l. family_names d l (map (key_of d) (take i family))) (drop_all i family over)

pub family_more : (d : Directory) (q family : List ℕ) (i : ℕ) → i < length family → first_named (key_of d) (key_of d (get_or family i 0)) (take i family) ≡ None → first_named (key_of d) q (take (i + 1) family) ≡ cond (pointwise nat_eq (key_of d (get_or family i 0)) q) (Some (get_or family i 0)) (first_named (key_of d) q (take i family))
family_more d q family i below none = rw (add-one, take-suc family i 0 below) (named_more d q (take i family) (get_or family i 0) none)

-- a name that is among the earlier ones comes no more, where all are apart
later_none : (d : Directory) (xs : List ℕ) (earlier : List (List ℕ)) (k : List ℕ) → is_among k earlier ≡ true → family_names d xs earlier ≡ Ok tt → first_named (key_of d) k xs ≡ None
unfolding family_names
later_none d [] earlier k there is = refl
later_none d (x ∷ xs) earlier k there is =
    elim (cases_Bool (is_among (key_of d x) earlier)) [
      | inl double ↦ absurd (cc (rw double at is))
      | inr new ↦
          elim (cases_Bool (pointwise nat_eq k (key_of d x))) [
            | inl same ↦ absurd (cc (subst (λ l. is_among l earlier ≡ true) ((bytes_eq-Decides k (key_of d x)).0 same) there, new))
            | inr other ↦ rw other (later_none d xs (earlier ++ key_of d x ∷ []) k (more k earlier (key_of d x) there) (rw new at is))
          ]
    ]
  where
    more : (k : List ℕ) (earlier : List (List ℕ)) (l : List ℕ) → is_among k earlier ≡ true → is_among k (earlier ++ l ∷ []) ≡ true
    more k earlier l h = list_any-append (pointwise nat_eq k) earlier (l ∷ []) ∙ rw h refl

family_apart-after : (d : Directory) (xs : List ℕ) (earlier : List (List ℕ)) → family_names d xs earlier ≡ Ok tt → are_apart (key_of d) xs ≡ true
unfolding family_names
family_apart-after d [] earlier is = refl
family_apart-after d (x ∷ xs) earlier is =
    elim (cases_Bool (is_among (key_of d x) earlier)) [
      | inl double ↦ absurd (cc (rw double at is))
      | inr new ↦
          let rest : family_names d xs (earlier ++ key_of d x ∷ []) ≡ Ok tt = rw new at is in
          rw (later_none d xs (earlier ++ key_of d x ∷ []) (key_of d x) (last (key_of d x) earlier) rest) (family_apart-after d xs (earlier ++ key_of d x ∷ []) rest)
    ]
  where
    last : (k : List ℕ) (earlier : List (List ℕ)) → is_among k (earlier ++ k ∷ []) ≡ true
    last k earlier = list_any-append (pointwise nat_eq k) earlier (k ∷ []) ∙ elim (cases_Bool (is_among k earlier)) [
      | inl a ↦ rw a refl
      | inr a ↦ rw (a, nat_list_eq_equiv.refl k) refl
    ]

pub family_apart : (d : Directory) (xs : List ℕ) → family_names d xs [] ≡ Ok tt → are_apart (key_of d) xs ≡ true
family_apart d xs is = family_apart-after d xs [] is

pub families_apart : (d : Directory) (fam : ℕ → List ℕ) (visits : List ℕ) (p : ℕ) → names_of d (map fam visits) ≡ Ok tt → member p visits ≡ true → are_apart (key_of d) (fam p) ≡ true
unfolding names_of
families_apart d fam [] p is there = absurd (cc)
families_apart d fam (x ∷ visits) p is there =
    let here = cases_one (family_names d (fam x) []) is in
    elim (cases_Bool (eqb p x)) [
      | inl same ↦ rw (eqb-true p x same) (family_apart d (fam x) here.0)
      | inr other ↦ families_apart d fam visits p here.1 (rw other at there)
    ]
  where
    cases_one : (r : Result (Unit {0}) Fault) → (r >>= λ _. names_of d (map fam visits)) ≡ Ok tt → (r ≡ Ok tt) × (names_of d (map fam visits) ≡ Ok tt)
    cases_one (Ok u) h = (refl, h)
    cases_one (Err g) h = absurd (cc)
