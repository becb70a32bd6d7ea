-- Properties with their ranks and places: gathered, and sorted.
use Rattle.std.proofs.Common.{◌≡◌, ◌⊎◌, inl, inr, ℕ, ◌+◌, ◌<◌, ◌≤◌, List, [], ◌∷◌, ◌++◌, length, get_or, map, take, refl, sym, ap, subst, ◌∙◌, true, false, arith}
use Rattle.std.specs.Prelude.{IsPermutation, IsSorted, Contains}
use Rattle.std.specs.Cmp.{IsTotalOrder}
use Rattle.std.proofs.lemmas.Bool.{cases_lt}
use Rattle.std.proofs.lemmas.Cmp.{nat_cmp_total, on_total, then_total, ranked}
use Rattle.std.proofs.lemmas.List.{length-append, length-map, length-take-le, take_all, map-append, take_more, get_or_append_left, get_or-append-add, get_or_default}
use Rattle.std.proofs.lemmas.List.Sorted.{Contains-permutation, IsPermutation-sym}
use Rattle.std.specs.Ordering.{MatchOrdering, is_eq, is_lt, nat_cmp, ordering_reverse, ordering_then}
use Rattle.std.specs.declared.cmp.Ordering.{Ordering}
use Rattle.std.specs.declared.cmp.Ordering.TheVariants.{Less, Equal, Greater}
use Rattle.carrier_model.specs.Values.{Prop, prop_cmp}
use Rattle.prop_values.specs.Arrivals.{AreInPlace, pair_cmp, IsSortedByPair}
use Rattle.prop_values.specs.Ranks.{IsRank, AreRanked, ranked_cmp}
use Rattle.carrier_model.proofs.Orders.{prop_total}
use Rattle.prop_values.proofs.Ranks.{ranks_rise}
use Rattle.prop_values.proofs.Doubles.{by_pair}

nothing_taken : (ps : List Prop) → take 0 ps ≡ []
nothing_taken [] = refl
nothing_taken (p ∷ ps) = refl

module _ {X : Type 0} (prop : X → Prop) (rank place : X → ℕ) where
  -- the first k properties
  pub record Gathered (set : List ℕ) (ps : List Prop) (xs : List X) (k : ℕ) : Type 0 where
    pub props : map prop xs ≡ take k ps
    pub places : AreInPlace xs place
    pub ranks : (j : ℕ) (d : X) → j < length xs → IsRank set (prop (get_or xs j d)) (rank (get_or xs j d))

  pub gathered_none : (set : List ℕ) (ps : List Prop) → Gathered set ps [] 0
  gathered_none set ps = record { props = sym (nothing_taken ps); places = λ k d lt. absurd (omega (arith, lt)); ranks = λ j d lt. absurd (omega (arith, lt)) }

  pub gathered_more : (set : List ℕ) (ps : List Prop) (xs : List X) (k : ℕ) (x : X) → Gathered set ps xs k → k < length ps → prop x ≡ get_or ps k (prop x) → place x ≡ k → IsRank set (prop x) (rank x) → Gathered set ps (xs ++ x ∷ []) (k + 1)
  gathered_more set ps xs k x g in_ps prop_is place_is rank_is = record {
    props = map-append prop xs (x ∷ []) ∙ (ap (λ (z : List Prop). z ++ prop x ∷ []) g.props ∙ sym (take_more ps k (prop x) in_ps ∙ ap (λ (p : Prop). take k ps ++ p ∷ []) (sym prop_is)));
    places = λ j d lt. elim (last_or_before j lt) [
      | inl before ↦ ap place (get_or_append_left xs (x ∷ []) d j before) ∙ g.places j d before
      | inr e ↦ ap place (at_last j d e) ∙ (place_is ∙ (sym many ∙ sym e))
    ];
    ranks = λ j d lt. elim (last_or_before j lt) [
      | inl before ↦ subst (λ (z : X). IsRank set (prop z) (rank z)) (sym (get_or_append_left xs (x ∷ []) d j before)) (g.ranks j d before)
      | inr e ↦ subst (λ (z : X). IsRank set (prop z) (rank z)) (sym (at_last j d e)) rank_is
    ];
  }
    where
      many : length xs ≡ k
      many = omega (arith, length-map xs prop, ap length g.props, length-take-le k ps (omega (arith, in_ps)))

      last_or_before : (j : ℕ) → j < length (xs ++ x ∷ []) → (j < length xs) ⊎ (j ≡ length xs)
      last_or_before j lt = elim (cases_lt j (length xs)) [
        | inl h ↦ inl h
        | inr h ↦ inr (omega (arith, h, lt, length-append xs (x ∷ [])))
      ]

      at_last : (j : ℕ) (d : X) → j ≡ length xs → get_or (xs ++ x ∷ []) j d ≡ x
      at_last j d e = subst (λ (n : ℕ). get_or (xs ++ x ∷ []) n d ≡ x) (omega (arith, e)) (get_or-append-add xs (x ∷ []) 0 d)

  pub gathered_props : (set : List ℕ) (ps : List Prop) (xs : List X) (k : ℕ) → Gathered set ps xs k → length ps ≤ k → map prop xs ≡ ps
  gathered_props set ps xs k g le = g.props ∙ take_all k ps le

  pub gathered_ranked : (set : List ℕ) (ps : List Prop) (xs : List X) (k : ℕ) → Gathered set ps xs k → AreRanked xs prop rank
  gathered_ranked set ps xs k g i j d e i_in j_in lt = ranks_rise set (prop (get_or xs i d)) (prop (get_or xs j e)) (rank (get_or xs i d)) (rank (get_or xs j e)) (g.ranks i d i_in) (g.ranks j e j_in) lt

  -- ---- the same, sorted

  ranked_in : (xs : List X) (x y : X) → AreRanked xs prop rank → Contains xs x → Contains xs y → rank x < rank y → prop_cmp (prop x) (prop y) ≡ Less
  ranked_in xs x y r (i, i_in, a) (j, j_in, b) lt =
      subst (λ (z : X). prop_cmp (prop x) (prop z) ≡ Less) b
      (subst (λ (z : X). prop_cmp (prop z) (prop (get_or xs j y)) ≡ Less) a
      (r i j x y i_in j_in (subst (λ (n : ℕ). n < rank (get_or xs j y)) (sym (ap rank a)) (subst (λ (n : ℕ). rank x < n) (sym (ap rank b)) lt))))

  module _ (xs ys : List X) (r : AreRanked xs prop rank) (moved : IsPermutation xs ys) where
    back : (i : ℕ) (d : X) → i < length ys → Contains xs (get_or ys i d)
    back i d lt = Contains-permutation ys xs (get_or ys i d) (IsPermutation-sym xs ys moved) (i, lt, get_or_default ys i (get_or ys i d) d lt)

    pub ranked_kept : AreRanked ys prop rank
    ranked_kept i j d e i_in j_in lt = ranked_in xs (get_or ys i d) (get_or ys j e) r (back i d i_in) (back j e j_in) lt

    not_below : (x y : X) → Contains xs x → Contains xs y → (a : Ordering) → nat_cmp (rank x) (rank y) ≡ a → is_lt (ordering_then (nat_cmp (rank x) (rank y)) (pair_cmp prop place x y)) ≡ false → is_lt (pair_cmp prop place x y) ≡ false
    not_below x y x_in y_in Less e h = let f : true ≡ false = sym (ap (λ b. is_lt (ordering_then b (pair_cmp prop place x y))) e) ∙ h in cc
    not_below x y x_in y_in Equal e h = sym (ap (λ b. is_lt (ordering_then b (pair_cmp prop place x y))) e) ∙ h
    not_below x y x_in y_in Greater e h =
        let over : rank y < rank x = subst (λ b. MatchOrdering b (rank x < rank y) (rank x ≡ rank y) (rank y < rank x)) e (ranked (rank x) (rank y) (nat_cmp (rank x) (rank y)) refl) in
        let above : prop_cmp (prop x) (prop y) ≡ Greater = prop_total.antisymm (prop x) (prop y) ∙ ap ordering_reverse (ranked_in xs y x r y_in x_in over) in
        ap (λ b. is_lt (ordering_then b (nat_cmp (place x) (place y)))) above

    -- what is sorted by ranks first is sorted
    pub pair_sorted : IsSorted (ranked_cmp prop rank place) ys → IsSortedByPair ys prop place
    pair_sorted s k d low in_range = not_below (get_or ys (k + 1) d) (get_or ys k d) (back (k + 1) d in_range) (back k d (omega (arith, in_range))) (nat_cmp (rank (get_or ys (k + 1) d)) (rank (get_or ys k d))) refl (s k d low in_range)

  pub by_rank : IsTotalOrder (ranked_cmp prop rank place)
  by_rank = then_total (on_total rank nat_cmp_total) (by_pair prop place)

  module _ (xs : List X) (i j : ℕ) (d e : X) (r : AreRanked xs prop rank) (i_in : i < length xs) (j_in : j < length xs) (differs : (rank (get_or xs i d) ≡ rank (get_or xs j e)) × (prop_cmp (prop (get_or xs i d)) (prop (get_or xs j e)) ≡ Equal) → ⊥) where
    abbrev x : X
    x = get_or xs i d

    abbrev y : X
    y = get_or xs j e

    clash : Less ≡ Equal → ⊥
    clash f = cc

    turned : prop_cmp (prop x) (prop y) ≡ Equal → prop_cmp (prop y) (prop x) ≡ Equal
    turned f = prop_total.antisymm (prop y) (prop x) ∙ ap ordering_reverse f

    by : (a : Ordering) → prop_cmp (prop x) (prop y) ≡ a → is_eq (prop_cmp (prop x) (prop y)) ≡ false
    by Less f = ap is_eq f
    by Equal f = elim (cases_lt (rank x) (rank y)) [
      | inl under ↦ absurd (clash (sym (r i j d e i_in j_in under) ∙ f))
      | inr from ↦ elim (cases_lt (rank y) (rank x)) [
        | inl over ↦ absurd (clash (sym (r j i e d j_in i_in over) ∙ turned f))
        | inr to ↦ absurd (differs (omega (arith, from, to), f))
      ]
    ]
    by Greater f = ap is_eq f

    -- two properties are equal only if their ranks are
    pub not_equal : is_eq (prop_cmp (prop (get_or xs i d)) (prop (get_or xs j e))) ≡ false
    not_equal = by (prop_cmp (prop x) (prop y)) refl
