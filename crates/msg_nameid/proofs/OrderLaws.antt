-- Pairs in the order of their names.
use Rattle.std.proofs.Common.{◌≡◌, ℕ, ◌+◌, ◌<◌, ◌≤◌, Bool, true, false, not, List, [], ◌∷◌, length, map, get_or, refl, sym, ap, ap₂, subst, ◌∙◌, inl, inr, arith}
use Rattle.std.specs.Prelude.{Contains, Option, Some, None, min, nat_lt, nat_eq, if◌then◌else◌}
use Rattle.std.specs.Cmp.{IsTotalOrder}
use Rattle.std.specs.List.{AllAdjacentBelow, IsAllAdjacentAnswer}
use Rattle.std.specs.Bool.{IsTrue}
use Rattle.std.specs.List.Sorted.{IsSorted}
use Rattle.std.specs.Ordering.{is_eq, is_lt, nat_cmp, ordering_reverse, ordering_then}
use Rattle.std.specs.declared.cmp.Ordering.{Ordering}
use Rattle.std.specs.declared.cmp.Ordering.TheVariants.{Less, Equal, Greater}
use Rattle.std.proofs.lemmas.Bool.{cases_lt}
use Rattle.std.proofs.lemmas.Bool.Decides.{nat_tests}
use Rattle.std.proofs.lemmas.Cmp.{nat_cmp_total, on_total, then_total, tied_itself}
use Rattle.std.proofs.lemmas.List.{get_or_default, get_or-map, length-map}
use Rattle.std.proofs.lemmas.List.Sorted.{ranks_by, sorted_far}
use Rattle.carrier_model.specs.Keys.{Name, numbered, name_cmp}
use Rattle.carrier_model.proofs.Orders.{name_total, name_exact}
use Rattle.msg_model.specs.NameMap.{Pair}
use Rattle.msg_nameid.specs.declared.map.Entry.{Entry}
use Rattle.msg_nameid.specs.Maps.{IsLeastId, pair_of}
use Rattle.msg_nameid.specs.Orders.{pair_cmp, pair_at, IsFrontOf, lower_id}

pub pair_total : IsTotalOrder pair_cmp
pair_total = then_total (on_total (λ (p : Pair). p.1) name_total) (on_total (λ (p : Pair). p.0) nat_cmp_total)

-- ---- names before and behind one another

-- what comes before something below a name is below that name
pub earlier_below : (p q : Pair) (name : Name) → is_lt (pair_cmp q p) ≡ false → is_lt (name_cmp q.1 name) ≡ true → is_lt (name_cmp p.1 name) ≡ true
earlier_below p q name order lt = by (name_cmp q.1 p.1) refl
  where
    less : (a : Ordering) → is_lt a ≡ true → a ≡ Less
    less Less h = refl
    less Equal h = absurd cc
    less Greater h = absurd cc

    by : (a : Ordering) → name_cmp q.1 p.1 ≡ a → is_lt (name_cmp p.1 name) ≡ true
    by Less e = absurd (let wrong : true ≡ false = sym (ap (λ (b : Ordering). is_lt (ordering_then b (nat_cmp q.0 p.0))) e) ∙ order in cc)
    by Equal e = ap is_lt (sym (name_total.congr q.1 p.1 name e)) ∙ lt
    by Greater e = ap is_lt (name_total.trans p.1 q.1 name (name_total.antisymm p.1 q.1 ∙ ap ordering_reverse e) (less (name_cmp q.1 name) lt))

pub later_above : (p q : Pair) (name : Name) → is_lt (pair_cmp q p) ≡ false → is_lt (name_cmp p.1 name) ≡ false → is_lt (name_cmp q.1 name) ≡ false
later_above p q name order ge = by (is_lt (name_cmp q.1 name)) refl
  where
    by : (b : Bool) → is_lt (name_cmp q.1 name) ≡ b → is_lt (name_cmp q.1 name) ≡ false
    by true e = absurd (let wrong : true ≡ false = sym (earlier_below p q name order e) ∙ ge in cc)
    by false e = e

-- ---- pairs in order

abbrev pub comes_first : Entry → Entry → Bool
comes_first one other = not (is_lt (pair_cmp (pair_of other) (pair_of one)))

isn't_below : (b : Bool) → true ≡ not b → b ≡ false
isn't_below true h = absurd cc
isn't_below false h = refl

is_below : (b : Bool) → false ≡ not b → b ≡ true
is_below true h = refl
is_below false h = absurd cc

-- each entry comes before the next one, or is below none
sorted_where : (entries : List Entry) → AllAdjacentBelow (λ one other. true ≡ comes_first one other) entries (length entries) → IsSorted pair_cmp (map pair_of entries)
sorted_where [] all k d low lt = absurd (omega (arith, lt))
sorted_where (e ∷ entries) all k d low lt =
    let inside : k + 1 < length (e ∷ entries) = omega (arith, lt, length-map (e ∷ entries) pair_of) in
    let one : get_or (map pair_of (e ∷ entries)) k d ≡ pair_of (get_or (e ∷ entries) k e) = get_or-map pair_of (e ∷ entries) k e d (omega (arith, inside)) in
    let next : get_or (map pair_of (e ∷ entries)) (k + 1) d ≡ pair_of (get_or (e ∷ entries) (k + 1) e) = get_or-map pair_of (e ∷ entries) (k + 1) e d inside in
    ap₂ (λ (p q : Pair). is_lt (pair_cmp p q)) next one ∙ isn't_below (is_lt (pair_cmp (pair_of (get_or (e ∷ entries) (k + 1) e)) (pair_of (get_or (e ∷ entries) k e)))) (all k e inside)

unsorted_where : (entries : List Entry) (k : ℕ) → k + 1 < length entries → ((d : Entry) → false ≡ comes_first (get_or entries k d) (get_or entries (k + 1) d)) → IsSorted pair_cmp (map pair_of entries) → ⊥
unsorted_where [] k inside below up = omega (arith, inside)
unsorted_where (e ∷ entries) k inside below up =
    let p : Pair = pair_of e in
    let one : get_or (map pair_of (e ∷ entries)) k p ≡ pair_of (get_or (e ∷ entries) k e) = get_or-map pair_of (e ∷ entries) k e p (omega (arith, inside)) in
    let next : get_or (map pair_of (e ∷ entries)) (k + 1) p ≡ pair_of (get_or (e ∷ entries) (k + 1) e) = get_or-map pair_of (e ∷ entries) (k + 1) e p inside in
    let wrong : true ≡ false = sym (ap₂ (λ (a b : Pair). is_lt (pair_cmp a b)) next one ∙ is_below (is_lt (pair_cmp (pair_of (get_or (e ∷ entries) (k + 1) e)) (pair_of (get_or (e ∷ entries) k e)))) (below e)) ∙ up k p (omega arith) (omega (arith, inside, length-map (e ∷ entries) pair_of)) in
    cc

abbrev ComesFirstEverywhere : List Entry → Bool → Type 0
ComesFirstEverywhere = IsAllAdjacentAnswer (λ one other b. b ≡ comes_first one other)

pub sorted_at : (entries : List Entry) (answer : Bool) → ComesFirstEverywhere entries answer → IsTrue answer → IsSorted pair_cmp (map pair_of entries)
sorted_at entries true all sorted = sorted_where entries all
sorted_at entries false found sorted = absurd cc

pub unsorted_at : (entries : List Entry) (answer : Bool) → ComesFirstEverywhere entries answer → answer ≡ false → IsSorted pair_cmp (map pair_of entries) → ⊥
unsorted_at entries true all h up = absurd cc
unsorted_at entries false found h up = unsorted_where entries found.0 found.1 found.2 up

-- ---- a search

pair_there : (pairs : List Pair) (k n : ℕ) (name : Name) → k < length pairs → get_or pairs k (n, name) ≡ (n, name) → pair_at pairs k ≡ (n, name)
pair_there pairs k n name lt e = get_or_default pairs k (0, numbered [] 0) (n, name) lt ∙ e

module _ (pairs : List Pair) (up : IsSorted pair_cmp pairs) where
  -- what stands behind isn't below
  far : (i j : ℕ) → i ≤ j → j < length pairs → is_lt (pair_cmp (pair_at pairs j) (pair_at pairs i)) ≡ false
  far i j = sorted_far (λ (p q : Pair). is_lt (pair_cmp p q)) (ranks_by pair_total (λ (p : Pair). p)) pairs up i j (0, numbered [] 0)

  module _ (name : Name) where
    -- all before a pair that is below the name
    pub all_below : (m k : ℕ) → m < length pairs → is_lt (name_cmp (pair_at pairs m).1 name) ≡ true → k < m + 1 → is_lt (name_cmp (pair_at pairs k).1 name) ≡ true
    all_below m k lt below before = earlier_below (pair_at pairs k) (pair_at pairs m) name (far k m (omega arith) lt) below

    -- all from a pair on that isn't below it
    pub all_above : (m k : ℕ) → is_lt (name_cmp (pair_at pairs m).1 name) ≡ false → m ≤ k → k < length pairs → is_lt (name_cmp (pair_at pairs k).1 name) ≡ false
    all_above m k above le lt = later_above (pair_at pairs m) (pair_at pairs k) name (far m k le lt) above

    module _ (at : ℕ) (f : IsFrontOf pairs name at) where
      itself : (k n : ℕ) → pair_at pairs k ≡ (n, name) → is_lt (name_cmp (pair_at pairs k).1 name) ≡ true → ⊥
      itself k n e h = let wrong : true ≡ false = sym h ∙ (ap (λ (p : Pair). is_lt (name_cmp p.1 name)) e ∙ ap is_lt (tied_itself name_total name)) in cc

      -- where the name is, it is from the place on
      behind : (k n : ℕ) → pair_at pairs k ≡ (n, name) → at ≤ k
      behind k n e = elim (cases_lt k at) [
        | inl before ↦ absurd (itself k n e (f.below k before))
        | inr from ↦ from
      ]

      pub none_left : length pairs ≤ at → IsLeastId pairs name None
      none_left le n (k, lt, e) = absurd (omega (arith, lt, le, behind k n (pair_there pairs k n name lt e)))

      pub none_there : at < length pairs → (name_cmp (pair_at pairs at).1 name ≡ Equal → ⊥) → IsLeastId pairs name None
      none_there lt differ n (k, within, e) =
          let is = pair_there pairs k n name within e in
          let later : is_lt (pair_cmp (n, name) (pair_at pairs at)) ≡ false = subst (λ (p : Pair). is_lt (pair_cmp p (pair_at pairs at)) ≡ false) is (far at k (behind k n is) within) in
          by n later (name_cmp (pair_at pairs at).1 name) refl (f.above at (omega arith) lt)
        where
          by : (n : ℕ) → is_lt (pair_cmp (n, name) (pair_at pairs at)) ≡ false → (a : Ordering) → name_cmp (pair_at pairs at).1 name ≡ a → is_lt (name_cmp (pair_at pairs at).1 name) ≡ false → ⊥
          by n later Less e above = let wrong : true ≡ false = sym (ap is_lt e) ∙ above in cc
          by n later Equal e above = differ e
          by n later Greater e above =
              let turned : name_cmp name (pair_at pairs at).1 ≡ Less = name_total.antisymm name (pair_at pairs at).1 ∙ ap ordering_reverse e in
              let wrong : true ≡ false = sym (ap (λ (b : Ordering). is_lt (ordering_then b (nat_cmp n (pair_at pairs at).0))) turned) ∙ later in cc

      not_below : (m n : ℕ) → is_lt (nat_cmp m n) ≡ false → n ≤ m
      not_below m n h = by (nat_lt m n) refl h
        where
          by : (b : Bool) → nat_lt m n ≡ b → is_lt (if b then Less else (if nat_eq m n then Equal else Greater)) ≡ false → n ≤ m
          by true e h = absurd cc
          by false e h = grind (arith, nat_tests)

      pub least_there : at < length pairs → name_cmp (pair_at pairs at).1 name ≡ Equal → (id : ℕ) → id ≡ (pair_at pairs at).0 → IsLeastId pairs name (Some id)
      least_there lt equal id is_id = (there, least)
        where
          here : pair_at pairs at ≡ (id, name)
          here = let same : (pair_at pairs at).1 ≡ name = name_exact (pair_at pairs at).1 name equal in λ i. (sym is_id i, same i)

          there : Contains pairs (id, name)
          there = (at, lt, get_or_default pairs at (id, name) (0, numbered [] 0) lt ∙ here)

          least : (n : ℕ) → Contains pairs (n, name) → id ≤ n
          least n (k, within, e) =
              let is = pair_there pairs k n name within e in
              let later : is_lt (pair_cmp (n, name) (id, name)) ≡ false = subst (λ (p : Pair). is_lt (pair_cmp p (id, name)) ≡ false) is (subst (λ (q : Pair). is_lt (pair_cmp (pair_at pairs k) q) ≡ false) here (far at k (behind k n is) within)) in
              not_below n id (sym (ap (λ (b : Ordering). is_lt (ordering_then b (nat_cmp n id))) (tied_itself name_total name)) ∙ later)

-- ---- all pairs looked at

pub is_equal : (a : Ordering) → is_eq a ≡ true → a ≡ Equal
is_equal Less h = absurd cc
is_equal Equal h = refl
is_equal Greater h = absurd cc

pub is_other : (a : Ordering) → is_eq a ≡ false → a ≡ Equal → ⊥
is_other a h e = let wrong : true ≡ false = sym (ap is_eq e) ∙ h in cc

-- the least id of a name among the first pairs
abbrev pub IsLeastOf : List Pair → Name → ℕ → Option ℕ → Type 0
IsLeastOf pairs name count None = (k n : ℕ) → k < count → pair_at pairs k ≡ (n, name) → ⊥
IsLeastOf pairs name count (Some id) = ((k : ℕ) × (k < count) × (pair_at pairs k ≡ (id, name))) × ((k n : ℕ) → k < count → pair_at pairs k ≡ (n, name) → id ≤ n)

pub least_of_all : (pairs : List Pair) (name : Name) (count : ℕ) (r : Option ℕ) → length pairs ≡ count → IsLeastOf pairs name count r → IsLeastId pairs name r
least_of_all pairs name count None long h = λ n c. h c.0 n (omega (arith, long, c.1)) (pair_there pairs c.0 n name c.1 c.2)
least_of_all pairs name count (Some id) long ((k, lt, e), least) = ((k, omega (arith, long, lt), get_or_default pairs k (id, name) (0, numbered [] 0) (omega (arith, long, lt)) ∙ e), all)
  where
    all : (n : ℕ) → Contains pairs (n, name) → id ≤ n
    all n (j, within, is) = least j n (omega (arith, long, within)) (pair_there pairs j n name within is)

module _ (pairs : List Pair) (name : Name) (k : ℕ) where
  -- the pair at one of the first places, or at the place behind them
  behind_them : (j n : ℕ) → k ≤ j → j < k + 1 → pair_at pairs j ≡ (n, name) → pair_at pairs k ≡ (n, name)
  behind_them j n from before e = subst (λ (i : ℕ). pair_at pairs i ≡ (n, name)) {x = j} {y = k} (omega (arith, from, before)) e

  -- one pair more, which has another name
  pub next_differs : (r : Option ℕ) → (name_cmp (pair_at pairs k).1 name ≡ Equal → ⊥) → IsLeastOf pairs name k r → IsLeastOf pairs name (k + 1) r
  next_differs None differ none = λ j n lt e. elim (cases_lt j k) [
    | inl before ↦ none j n before e
    | inr from ↦ differ (ap (λ (p : Pair). name_cmp p.1 name) (behind_them j n from lt e) ∙ tied_itself name_total name)
  ]
  next_differs (Some id) differ ((i, lt, is), least) = ((i, omega (arith, lt), is), all)
    where
      all : (j n : ℕ) → j < k + 1 → pair_at pairs j ≡ (n, name) → id ≤ n
      all j n before e = elim (cases_lt j k) [
        | inl first ↦ least j n first e
        | inr from ↦ absurd (differ (ap (λ (p : Pair). name_cmp p.1 name) (behind_them j n from before e) ∙ tied_itself name_total name))
      ]

  -- one pair more, which has the name
  module _ (id : ℕ) (here : pair_at pairs k ≡ (id, name)) where
    its_id : (j n : ℕ) → k ≤ j → j < k + 1 → pair_at pairs j ≡ (n, name) → n ≡ id
    its_id j n from before e = ap (λ (p : Pair). p.0) (sym (behind_them j n from before e) ∙ here)

    pub next_same : (r : Option ℕ) → IsLeastOf pairs name k r → IsLeastOf pairs name (k + 1) (Some (lower_id r id))
    next_same None none = ((k, omega arith, here), all)
      where
        all : (j n : ℕ) → j < k + 1 → pair_at pairs j ≡ (n, name) → id ≤ n
        all j n before e = elim (cases_lt j k) [
          | inl first ↦ absurd (none j n first e)
          | inr from ↦ omega (arith, its_id j n from before e)
        ]
    next_same (Some found) ((i, lt, is), least) = (there, all)
      where
        there : (j : ℕ) × (j < k + 1) × (pair_at pairs j ≡ (min found id, name))
        there = elim (cases_lt id found) [
          | inl lower ↦ (k, omega arith, here ∙ ap (λ (n : ℕ). (n, name)) (let e : id ≡ min found id = omega (arith, lower) in e))
          | inr first ↦ (i, omega (arith, lt), is ∙ ap (λ (n : ℕ). (n, name)) (let e : found ≡ min found id = omega (arith, first) in e))
        ]

        all : (j n : ℕ) → j < k + 1 → pair_at pairs j ≡ (n, name) → min found id ≤ n
        all j n before e = elim (cases_lt j k) [
          | inl first ↦ omega (arith, least j n first e)
          | inr from ↦ omega (arith, its_id j n from before e)
        ]
