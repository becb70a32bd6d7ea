-- A list that is put into another order in place, one element after the other.
use Rattle.std.proofs.Common.{◌≡◌, ◌⊎◌, inl, inr, ℕ, ◌+◌, ◌<◌, ◌≤◌, List, length, get_or, set, map, refl, sym, ap, subst, ◌∙◌, arith}
use Rattle.std.specs.List.{SwappedAt}
use Rattle.std.proofs.lemmas.Bool.{cases_lt}
use Rattle.std.proofs.lemmas.List.{get_or-set_same, get_or-set_other, length-set, length-map, get_or-map, get_or_default, same_lists}
use Rattle.prop_values.specs.Arranged.{ArePlaces, AreInverse}

same_or_not : (i j : ℕ) → (i ≡ j) ⊎ (i ≡ j → ⊥)
same_or_not i j = elim (cases_lt i j) [
  | inl under ↦ inr (λ e. omega (arith, under, e))
  | inr from ↦ elim (cases_lt j i) [
    | inl over ↦ inr (λ e. omega (arith, over, e))
    | inr under ↦ inl (omega (arith, from, under))
  ]
]

-- Where each element is that has not reached its place, and where each element goes that stands there. The first i
-- places are done.
pub record Underway {T : Type 0} (initial : List T) (aims : List ℕ) (list : List T) (places ranks : List ℕ) (i : ℕ) : Type 0 where
  pub same_list : length list ≡ length initial
  pub same_aims : length aims ≡ length initial
  pub same_places : length places ≡ length initial
  pub same_ranks : length ranks ≡ length initial
  pub done : (k : ℕ) (d : T) → k < i → get_or list k d ≡ get_or initial (get_or aims k 0) d
  pub from_low : (k : ℕ) → i ≤ k → k < length initial → i ≤ get_or places k 0
  pub from_high : (k : ℕ) → i ≤ k → k < length initial → get_or places k 0 < length initial
  pub rank : (k : ℕ) → i ≤ k → k < length initial → get_or ranks (get_or places k 0) 0 ≡ k
  pub there : (k : ℕ) (d : T) → i ≤ k → k < length initial → get_or list (get_or places k 0) d ≡ get_or initial (get_or aims k 0) d
  pub to_low : (p : ℕ) → i ≤ p → p < length initial → i ≤ get_or ranks p 0
  pub to_high : (p : ℕ) → i ≤ p → p < length initial → get_or ranks p 0 < length initial
  pub place : (p : ℕ) → i ≤ p → p < length initial → get_or places (get_or ranks p 0) 0 ≡ p

pub underway_start : {T : Type 0} (list : List T) (places ranks : List ℕ) → AreInverse places ranks → length places ≡ length list → Underway list places list places ranks 0
underway_start list places ranks v e = record {
  same_list = refl;
  same_aims = e;
  same_places = e;
  same_ranks = v.each ∙ e;
  done = λ k d lt. absurd (omega (arith, lt));
  from_low = λ k lo lt. omega arith;
  from_high = λ k lo lt. omega (arith, e, v.within k (omega (arith, e, lt)));
  rank = λ k lo lt. v.rank k (omega (arith, e, lt));
  there = λ k d lo lt. refl;
  to_low = λ p lo lt. omega arith;
  to_high = λ p lo lt. omega (arith, e, v.ranked p (omega (arith, e, lt)));
  place = λ p lo lt. v.place p (omega (arith, e, lt));
}

module _ {T : Type 0} (initial : List T) (aims : List ℕ) (list : List T) (places ranks : List ℕ) (i : ℕ) (w : Underway initial aims list places ranks i) (lt : i < length initial) where
  abbrev from : ℕ
  from = get_or places i 0

  abbrev rank_here : ℕ
  rank_here = get_or ranks i 0

  from_in : from < length initial
  from_in = w.from_high i (omega arith) lt

  rank_in : rank_here < length initial
  rank_in = w.to_high i (omega arith) lt

  -- the element at i is at its place only if it is the one that goes there
  apart : rank_here ≡ i → from ≡ i
  apart e = sym (ap (λ (k : ℕ). get_or places k 0) e) ∙ w.place i (omega arith) lt

  together : from ≡ i → rank_here ≡ i
  together e = sym (ap (λ (k : ℕ). get_or ranks k 0) e) ∙ w.rank i (omega arith) lt

  module _ (moved : List T) (as_long : length moved ≡ length list) (swapped : SwappedAt list moved i from) where
    abbrev places' : List ℕ
    places' = set places rank_here from

    abbrev ranks' : List ℕ
    ranks' = set ranks from rank_here

    at_rank : get_or places' rank_here 0 ≡ from
    at_rank = get_or-set_same places rank_here from 0 (omega (arith, w.same_places, rank_in))

    at_from : get_or ranks' from 0 ≡ rank_here
    at_from = get_or-set_same ranks from rank_here 0 (omega (arith, w.same_ranks, from_in))

    other_place : (k : ℕ) → (k ≡ rank_here → ⊥) → get_or places' k 0 ≡ get_or places k 0
    other_place k n = get_or-set_other places rank_here k from 0 n

    other_rank : (p : ℕ) → (p ≡ from → ⊥) → get_or ranks' p 0 ≡ get_or ranks p 0
    other_rank p n = get_or-set_other ranks from p rank_here 0 n

    -- an element that is still to come, and neither of the two that change places
    not_here : (k : ℕ) → i < k → k < length initial → (k ≡ rank_here → ⊥) → get_or places k 0 ≡ i → ⊥
    not_here k lo hi n e = n (sym (w.rank k (omega (arith, lo)) hi) ∙ ap (λ (p : ℕ). get_or ranks p 0) e)

    not_from : (k : ℕ) → i < k → k < length initial → get_or places k 0 ≡ from → ⊥
    not_from k lo hi e =
        let same : k ≡ i = sym (w.rank k (omega (arith, lo)) hi) ∙ ap (λ (p : ℕ). get_or ranks p 0) e ∙ w.rank i (omega arith) lt in
        omega (arith, same, lo)

    rank_past : (p : ℕ) → i < p → p < length initial → (p ≡ from → ⊥) → get_or ranks p 0 ≡ i → ⊥
    rank_past p lo hi n e = n (sym (w.place p (omega (arith, lo)) hi) ∙ ap (λ (k : ℕ). get_or places k 0) e)

    rank_other : (p : ℕ) → i < p → p < length initial → get_or ranks p 0 ≡ rank_here → ⊥
    rank_other p lo hi e =
        let same : p ≡ i = sym (w.place p (omega (arith, lo)) hi) ∙ ap (λ (k : ℕ). get_or places k 0) e ∙ w.place i (omega arith) lt in
        omega (arith, same, lo)

    rank_above : (i < from) → i < rank_here
    rank_above over = elim (same_or_not rank_here i) [
      | inl e ↦ absurd (omega (arith, apart e, over))
      | inr n ↦ elim (cases_lt i rank_here) [
        | inl h ↦ h
        | inr h ↦ absurd (n (omega (arith, h, w.to_low i (omega arith) lt)))
      ]
    ]

    from_above : (i < rank_here) → i < from
    from_above over = elim (same_or_not from i) [
      | inl e ↦ absurd (omega (arith, together e, over))
      | inr n ↦ elim (cases_lt i from) [
        | inl h ↦ h
        | inr h ↦ absurd (n (omega (arith, h, w.from_low i (omega arith) lt)))
      ]
    ]

    done' : (k : ℕ) (d : T) → k < i + 1 → get_or moved k d ≡ get_or initial (get_or aims k 0) d
    done' k d under = elim (same_or_not k i) [
      | inl e ↦ rw e (swapped.0 d ∙ w.there i d (omega arith) lt)
      | inr n ↦
          let before : k < i = elim (cases_lt k i) [
            | inl h ↦ h
            | inr h ↦ absurd (n (omega (arith, h, under)))
          ] in
          let low : i ≤ from = w.from_low i (omega arith) lt in
          swapped.2 k d (λ e. omega (arith, e, before)) (λ e. omega (arith, e, before, low)) ∙ w.done k d before
    ]

    -- what holds of the element that goes to k
    module _ (k : ℕ) (lo : i + 1 ≤ k) (hi : k < length initial) where
      above : i < k
      above = omega (arith, lo)

      low' : i + 1 ≤ get_or places' k 0
      low' = elim (same_or_not k rank_here) [
        | inl e ↦ rw (e, at_rank) (let h = from_above (omega (arith, e, above)) in omega (arith, h))
        | inr n ↦ rw (other_place k n) (elim (same_or_not (get_or places k 0) i) [
          | inl e ↦ absurd (not_here k above hi n e)
          | inr m ↦ elim (cases_lt i (get_or places k 0)) [
            | inl h ↦ omega (arith, h)
            | inr h ↦ absurd (m (omega (arith, h, w.from_low k (omega (arith, above)) hi)))
          ]
        ])
      ]

      high' : get_or places' k 0 < length initial
      high' = elim (same_or_not k rank_here) [
        | inl e ↦ rw (e, at_rank) from_in
        | inr n ↦ rw (other_place k n) (w.from_high k (omega (arith, above)) hi)
      ]

      rank' : get_or ranks' (get_or places' k 0) 0 ≡ k
      rank' = elim (same_or_not k rank_here) [
        | inl e ↦ rw (e, at_rank) at_from
        | inr n ↦ rw (other_place k n) (other_rank (get_or places k 0) (not_from k above hi) ∙ w.rank k (omega (arith, above)) hi)
      ]

      there' : (d : T) → get_or moved (get_or places' k 0) d ≡ get_or initial (get_or aims k 0) d
      there' d = elim (same_or_not k rank_here) [
        | inl e ↦
            let here : get_or list (get_or places rank_here 0) d ≡ get_or initial (get_or aims rank_here 0) d = w.there rank_here d (w.to_low i (omega arith) lt) rank_in in
            rw (e, at_rank) (swapped.1 d ∙ (subst (λ (p : ℕ). get_or list p d ≡ get_or initial (get_or aims rank_here 0) d) (w.place i (omega arith) lt) here))
        | inr n ↦ rw (other_place k n) (swapped.2 (get_or places k 0) d (not_here k above hi n) (not_from k above hi) ∙ w.there k d (omega (arith, above)) hi)
      ]

      to_low' : i + 1 ≤ get_or ranks' k 0
      to_low' = elim (same_or_not k from) [
        | inl e ↦ rw (e, at_from) (let h = rank_above (omega (arith, e, above)) in omega (arith, h))
        | inr n ↦ rw (other_rank k n) (elim (same_or_not (get_or ranks k 0) i) [
          | inl e ↦ absurd (rank_past k above hi n e)
          | inr m ↦ elim (cases_lt i (get_or ranks k 0)) [
            | inl h ↦ omega (arith, h)
            | inr h ↦ absurd (m (omega (arith, h, w.to_low k (omega (arith, above)) hi)))
          ]
        ])
      ]

      to_high' : get_or ranks' k 0 < length initial
      to_high' = elim (same_or_not k from) [
        | inl e ↦ rw (e, at_from) rank_in
        | inr n ↦ rw (other_rank k n) (w.to_high k (omega (arith, above)) hi)
      ]

      place' : get_or places' (get_or ranks' k 0) 0 ≡ k
      place' = elim (same_or_not k from) [
        | inl e ↦ rw (e, at_from) at_rank
        | inr n ↦ rw (other_rank k n) (other_place (get_or ranks k 0) (rank_other k above hi) ∙ w.place k (omega (arith, above)) hi)
      ]

    -- one more element reaches its place
    pub underway_more : Underway initial aims moved (set places rank_here from) (set ranks from rank_here) (i + 1)
    underway_more = record {
      same_list = as_long ∙ w.same_list;
      same_aims = w.same_aims;
      same_places = length-set places rank_here from ∙ w.same_places;
      same_ranks = length-set ranks from rank_here ∙ w.same_ranks;
      done = done';
      from_low = low';
      from_high = high';
      rank = rank';
      there = λ k d lo hi. there' k lo hi d;
      to_low = to_low';
      to_high = to_high';
      place = place';
    }

-- all have reached their places
pub underway_all : {T : Type 0} (initial : List T) (aims : List ℕ) (list : List T) (places ranks : List ℕ) (i : ℕ) → Underway initial aims list places ranks i → length list ≤ i → (d : T) → list ≡ map (λ (k : ℕ). get_or initial k d) aims
underway_all initial aims list places ranks i w le d =
    same_lists list (map (λ (k : ℕ). get_or initial k d) aims) (w.same_list ∙ sym (length-map aims (λ (k : ℕ). get_or initial k d) ∙ w.same_aims))
    (λ k e lt.
    let in_aims : k < length aims = omega (arith, w.same_list, w.same_aims, lt) in
    get_or_default list k e d lt ∙ w.done k d (omega (arith, lt, le)) ∙ sym (get_or-map (λ (k : ℕ). get_or initial k d) aims k 0 e in_aims))

-- ---- where each place stands

pub record Ranked (places ranks : List ℕ) (i : ℕ) : Type 0 where
  pub each : length ranks ≡ length places
  pub rank : (k : ℕ) → k < i → get_or ranks (get_or places k 0) 0 ≡ k

pub ranked_more : (places ranks : List ℕ) (i : ℕ) → ArePlaces places → i < length places → Ranked places ranks i → Ranked places (set ranks (get_or places i 0) i) (i + 1)
ranked_more places ranks i p lt r = record {
  each = length-set ranks (get_or places i 0) i ∙ r.each;
  rank = λ k under. elim (same_or_not k i) [
    | inl e ↦ rw e (get_or-set_same ranks (get_or places i 0) i 0 (omega (arith, r.each, p.within i lt)))
    | inr n ↦
        let before : k < i = elim (cases_lt k i) [
          | inl h ↦ h
          | inr h ↦ absurd (n (omega (arith, h, under)))
        ] in
        get_or-set_other ranks (get_or places i 0) (get_or places k 0) i 0 (λ e. n (p.apart k i (omega (arith, before, lt)) lt e)) ∙ r.rank k before
  ];
}

pub ranked_all : (places ranks : List ℕ) (i : ℕ) → ArePlaces places → length places ≤ i → Ranked places ranks i → AreInverse places ranks
ranked_all places ranks i p le r = record {
  each = r.each;
  within = p.within;
  rank = λ k lt. r.rank k (omega (arith, le, lt));
  ranked = λ q lt.
      let at = p.all q lt in
      let e : get_or ranks q 0 ≡ at.0 = sym (ap (λ (z : ℕ). get_or ranks z 0) at.2) ∙ r.rank at.0 (omega (arith, le, at.1)) in
      omega (arith, e, at.1);
  place = λ q lt.
      let at = p.all q lt in
      let e : get_or ranks q 0 ≡ at.0 = sym (ap (λ (z : ℕ). get_or ranks z 0) at.2) ∙ r.rank at.0 (omega (arith, le, at.1)) in
      ap (λ (z : ℕ). get_or places z 0) e ∙ at.2;
}
