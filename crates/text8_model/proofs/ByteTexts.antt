-- Texts in pages of single bytes.
use Rattle.std.proofs.Common.{◌≡◌, ◌∙◌, refl, sym, ap, subst, ℕ, suc, ◌+◌, ◌<◌, Bool, true, false, List, [], ◌∷◌, length, take, drop, map, arith}
use Rattle.std.specs.Prelude.{Option, Some, None, is_some, unwrap_or, not}
use Rattle.std.specs.List.{AllByRecursion, flat_map, position_from}
use Rattle.text8_model.specs.Pages.{IsByte}
use Rattle.text8_model.specs.Texts.{has_no_unit, bad_by, units_by}

-- such a text, by its sequences
abbrev pub BytesOf : (ℕ → Option ℕ) → List ℕ → List ℕ → Type 0
BytesOf f x u = (pairs : List (List ℕ × List ℕ)) × AllByRecursion (λ s. IsByte f s.0 s.1) pairs × (x ≡ flat_map (λ s. s.0) pairs) × (u ≡ flat_map (λ s. s.1) pairs)

module _ (f : ℕ → Option ℕ) where
  has_unit : (byte unit : ℕ) → f byte ≡ Some unit → has_no_unit f byte ≡ false
  has_unit byte unit e = ap (λ o. not (is_some o)) e

  no_bad : (i : ℕ) (pairs : List (List ℕ × List ℕ)) → AllByRecursion (λ s. IsByte f s.0 s.1) pairs → position_from (has_no_unit f) i (flat_map (λ s. s.0) pairs) ≡ None
  no_bad i [] all = refl
  no_bad i (s ∷ more) ((byte, unit, e, x, u), all) = rw (x, e) (no_bad (i + 1) more all)

  its_units : (pairs : List (List ℕ × List ℕ)) → AllByRecursion (λ s. IsByte f s.0 s.1) pairs → flat_map (λ s. s.1) pairs ≡ units_by f (flat_map (λ s. s.0) pairs)
  its_units [] all = refl
  its_units (s ∷ more) ((byte, unit, e, x, u), all) = rw (x, u, e) (ap (λ l. unit ∷ l) (its_units more all))

  pub means_by : (x u : List ℕ) → BytesOf f x u → (bad_by f x ≡ None) × (u ≡ units_by f x)
  means_by x u (pairs, all, e, d) = (ap (bad_by f) e ∙ no_bad 0 pairs all, d ∙ (its_units pairs all ∙ ap (units_by f) (sym e)))

  -- a text by its bytes
  pairs_of : List ℕ → List (List ℕ × List ℕ)
  pairs_of = map (λ byte. (byte ∷ [], unwrap_or (f byte) 0 ∷ []))

  of_unit : (o : Option ℕ) → not (is_some o) ≡ false → o ≡ Some (unwrap_or o 0)
  of_unit None e = cc
  of_unit (Some unit) e = refl

  one_more : (i byte : ℕ) (more : List ℕ) (b : Bool) → has_no_unit f byte ≡ b → position_from (has_no_unit f) i (byte ∷ more) ≡ None → (position_from (has_no_unit f) (i + 1) more ≡ None → BytesOf f more (units_by f more)) → BytesOf f (byte ∷ more) (units_by f (byte ∷ more))
  one_more i byte more true t e below = absurd (let wrong : Some i ≡ None = rw t at e in let never : ⊥ = cc in never)
  one_more i byte more false t e below =
      let rest = below (rw t at e) in (
        (byte ∷ [], unwrap_or (f byte) 0 ∷ []) ∷ rest.0,
        ((byte, unwrap_or (f byte) 0, of_unit (f byte) t, refl, refl), rest.1),
        ap (λ l. byte ∷ l) rest.2,
        ap (λ l. unwrap_or (f byte) 0 ∷ l) rest.3,
      )

  -- where no byte is found from a number on, each has a unit
  pub found_from : (i : ℕ) (x : List ℕ) → position_from (has_no_unit f) i x ≡ None → BytesOf f x (units_by f x)
  found_from i [] e = ([], tt, refl, refl)
  found_from i (byte ∷ more) e = one_more i byte more (has_no_unit f byte) refl e (found_from (i + 1) more)

  -- the place that is found
  pub record IsFound (x : List ℕ) (k : ℕ) : Type 0 where
    pub there : k < length x
    pub before : (i : ℕ) → position_from (has_no_unit f) i (take k x) ≡ None
    pub here : (byte : ℕ) (more : List ℕ) → drop k x ≡ byte ∷ more → has_no_unit f byte ≡ true

  Placed : ℕ → ℕ → List ℕ → Type 0
  Placed i at x = (k : ℕ) × (at ≡ i + k) × IsFound x k

  one_on : (i at byte : ℕ) (more : List ℕ) (b : Bool) → has_no_unit f byte ≡ b → position_from (has_no_unit f) i (byte ∷ more) ≡ Some at → (position_from (has_no_unit f) (i + 1) more ≡ Some at → Placed (i + 1) at more) → Placed i at (byte ∷ more)
  unfolding Placed
  one_on i at byte more true t e below =
      let same : Some i ≡ Some at = rw t at e in
      let is : i ≡ at = cc in
      (0, omega (arith, is), record { there = omega arith; before = λ j. refl; here = λ c rest d. (let first : byte ≡ c = cc in subst (λ (n : ℕ). has_no_unit f n ≡ true) first t) })
  one_on i at byte more false t e below =
      let rest = below (rw t at e) in
      let is : at ≡ i + 1 + rest.0 = rest.1 in
      let found : IsFound more rest.0 = rest.2 in
      (suc rest.0, omega (arith, is), record { there = omega (arith, found.there); before = λ j. rw t (found.before (j + 1)); here = found.here })

  place_in : (i at : ℕ) (x : List ℕ) → position_from (has_no_unit f) i x ≡ Some at → Placed i at x
  place_in i at [] e = absurd (let wrong : ⊥ = cc in wrong)
  place_in i at (byte ∷ more) e = one_on i at byte more (has_no_unit f byte) refl e (place_in (i + 1) at more)

  pub place_found : (at : ℕ) (x : List ℕ) → bad_by f x ≡ Some at → IsFound x at
  unfolding Placed
  place_found at x e =
      let found = place_in 0 at x e in
      let is : found.0 ≡ at = omega (arith, found.1) in
      subst (IsFound x) is found.2
