-- What a walk over marks says of the lists of the definitions.
use Rattle.std.proofs.Common.{◌≡◌, ℕ, zero, suc, ◌<◌, ◌≤◌, List, [], ◌∷◌, ◌++◌, length, get_or, set, Bool, true, false, ◌||◌, eqb, refl, sym, ◌∙◌, ap, arith, inl, inr}
use Rattle.std.proofs.lemmas.Bool.{cases_eq, cases_lt, eq-eqb, ne_eqb, le-ltb, ltb-true, and_parts, cond-true, cond-false}
use Rattle.std.proofs.lemmas.List.{length-set, get_or-set_same, get_or-set_other}
use Rattle.std.proofs.lemmas.List.Folds.{list_any-append}
use Rattle.std.proofs.lemmas.Map.Steps.{length-le_from_distinct_below}
use Rattle.std.specs.List.{IsDistinct, AllByRecursion}
use Rattle.carrier_model.specs.Chains.{Leads, word, member, is_open, Run, longest, after}
use Rattle.carrier_model.specs.Marks.{mark_all, is_free, AreFree, Marks, Stops}

pub member-cons : (q n : ℕ) (e : List ℕ) → member q (n ∷ e) ≡ (eqb q n || member q e)
member-cons q n e = refl

pub Marks-more : (m : List Bool) (e : List ℕ) (n : ℕ) → n < length m → Marks m e → Marks (set m n true) (n ∷ e)
Marks-more m e n inside h = λ q below.
    let within : q < length m = rw (← length-set m n true) below in
    elim (cases_eq q n) [
      | inl same ↦ rw (same, get_or-set_same m n true false inside, eq-eqb n n refl) refl
      | inr other ↦ rw (get_or-set_other m n q true false other, ne_eqb q n other) (h q within)
    ]

pub is_open-free : (b w : ℕ) (m : List Bool) (e : List ℕ) → Marks m e → b ≤ length m → (n : ℕ) → is_open b w e n ≡ is_free b w m n
is_open-free b w m e h l n =
    elim (cases_lt n b) [
      | inl below ↦ rw (h n (omega arith)) refl
      | inr above ↦ rw (le-ltb n b above) refl
    ]

pub is_free-below : (b w : ℕ) (m : List Bool) (n : ℕ) → is_free b w m n ≡ true → n < b
is_free-below b w m n h = ltb-true n b (and_parts _ _ h).0

pub longest_is : (k : ℕ) (T : List ℕ) (s b w : ℕ) (m : List Bool) (e c : List ℕ) (x : ℕ) → Marks m e → b ≤ length m → Leads T s c x → AreFree b w m c → is_free b w (mark_all m c) x ≡ false → length c ≤ k → longest k T s b w e ≡ c
unfolding longest
longest_is zero T s b w m e [] x h l linked free stuck short = refl
longest_is (suc k) T s b w m e [] x h l linked free stuck short =
    cond-false (is_open b w e s) _ _ (is_open-free b w m e h l s ∙ (rw linked stuck))
longest_is zero T s b w m e (n ∷ c) x h l linked free stuck short = absurd (omega arith)
longest_is (suc k) T s b w m e (n ∷ c) x h l linked free stuck short =
    let inside : n < length m = omega (arith, is_free-below b w m n free.0) in
    let rest : longest k T (word T n) b w (n ∷ e) ≡ c =
    longest_is k T (word T n) b w (set m n true) (n ∷ e) c x (Marks-more m e n inside h) (rw (length-set m n true) l) linked.1 free.1 stuck (omega arith) in
    rw linked.0 (cond-true (is_open b w e n) _ _ (is_open-free b w m e h l n ∙ free.0) ∙ ap (λ r. n ∷ r) rest)

-- what is free later was free before
pub is_free-before : (b w : ℕ) (m : List Bool) (n k : ℕ) → n < length m → is_free b w (set m n true) k ≡ true → (eqb n k ≡ false) × (is_free b w m k ≡ true)
is_free-before b w m n k inside h =
    elim (cases_eq k n) [
      | inl same ↦ absurd (let marked : get_or (set m n true) k false ≡ true = rw same (get_or-set_same m n true false inside) in grind (arith, marked, h))
      | inr other ↦ (ne_eqb n k (λ e. other (sym e)), rw (← get_or-set_other m n k true false other) h)
    ]

pub Free-before : (b w : ℕ) (m : List Bool) (n : ℕ) (c : List ℕ) → n < length m → AllByRecursion (λ k. is_free b w (set m n true) k ≡ true) c → AllByRecursion (λ k. eqb n k ≡ false) c × AllByRecursion (λ k. is_free b w m k ≡ true) c
Free-before b w m n [] inside h = (tt, tt)
Free-before b w m n (k ∷ c) inside h =
    let one = is_free-before b w m n k inside h.0 in
    let more = Free-before b w m n c inside h.1 in
    ((one.0, more.0), (one.1, more.1))

pub distinct_free : (b w : ℕ) (m : List Bool) (c : List ℕ) → b ≤ length m → AreFree b w m c → IsDistinct eqb c × AllByRecursion (λ k. is_free b w m k ≡ true) c
unfolding IsDistinct
distinct_free b w m [] l h = (tt, tt)
distinct_free b w m (n ∷ c) l h =
    let inside : n < length m = omega (arith, is_free-below b w m n h.0) in
    let rest = distinct_free b w (set m n true) c (rw (length-set m n true) l) h.1 in
    let before = Free-before b w m n c inside rest.1 in
    ((before.0, rest.0), (h.0, before.1))

pub opened_free : (b w : ℕ) (m : List Bool) (e c : List ℕ) → Marks m e → b ≤ length m → AllByRecursion (λ k. is_free b w m k ≡ true) c → AllByRecursion (λ k. is_open b w e k ≡ true) c
opened_free b w m e [] h l f = tt
opened_free b w m e (n ∷ c) h l f = (is_open-free b w m e h l n ∙ f.0, opened_free b w m e c h l f.1)

pub Run-from_Stops : (T : List ℕ) (s b w : ℕ) (m : List Bool) (e c : List ℕ) (x : ℕ) → Marks m e → b ≤ length m → Stops T s b w m c x → Run T s b w e c x
Run-from_Stops T s b w m e c x h l stops =
    let parts = distinct_free b w m c l stops.free in
    record { linked = stops.linked; distinct = parts.0; opened = opened_free b w m e c h l parts.1 }

-- a property of each member
pub at_member : (P : ℕ → Bool) (c : List ℕ) (q : ℕ) → AllByRecursion (λ n. P n ≡ true) c → member q c ≡ true → P q ≡ true
at_member P [] q h e = cc
at_member P (n ∷ c) q h e =
    elim (cases_eq q n) [
      | inl same ↦ rw same h.0
      | inr other ↦ at_member P c q h.1 (rw (ne_eqb q n other) at e)
    ]

pub is_open-below : (b w : ℕ) (e : List ℕ) (n : ℕ) → is_open b w e n ≡ true → n < b
is_open-below b w e n h = ltb-true n b (and_parts _ _ h).0

-- a run is no longer than the bound
pub length-Run : (T : List ℕ) (s b w : ℕ) (e c : List ℕ) (x : ℕ) → Run T s b w e c x → length c ≤ b
length-Run T s b w e c x r =
    length-le_from_distinct_below c b r.distinct (λ q h. is_open-below b w e q (at_member (is_open b w e) c q r.opened h))

pub after_Leads : (T : List ℕ) (s : ℕ) (c : List ℕ) (x : ℕ) → Leads T s c x → after T s c ≡ x
after_Leads T s [] x h = h
after_Leads T s (n ∷ c) x h = after_Leads T (word T n) c x h.1

-- the marks after the walk
pub member-after : (b w : ℕ) (m : List Bool) (e c : List ℕ) → Marks m e → b ≤ length m → AreFree b w m c → Marks (mark_all m c) (c ++ e)
member-after b w m e [] h l f = h
member-after b w m e (n ∷ c) h l f =
    let inside : n < length m = omega (arith, is_free-below b w m n f.0) in
    let later : Marks (mark_all (set m n true) c) (c ++ n ∷ e) = member-after b w (set m n true) (n ∷ e) c (Marks-more m e n inside h) (rw (length-set m n true) l) f.1 in
    λ q below. later q below ∙ moved q n c e
  where
    swapped : (x y z : Bool) → (x || (y || z)) ≡ (y || (x || z))
    swapped true true z = refl
    swapped true false z = refl
    swapped false y z = refl

    moved : (q n : ℕ) (c e : List ℕ) → member q (c ++ n ∷ e) ≡ member q (n ∷ (c ++ e))
    moved q n c e = rw (list_any-append (eqb q) c (n ∷ e), list_any-append (eqb q) c e) (swapped (member q c) (eqb q n) (member q e))

-- The list that a walk takes is the longest.
pub longest_Stops : (T : List ℕ) (s b w : ℕ) (m : List Bool) (e c : List ℕ) (x : ℕ) → Marks m e → b ≤ length m → Stops T s b w m c x → longest b T s b w e ≡ c
longest_Stops T s b w m e c x h l stops =
    longest_is b T s b w m e c x h l stops.linked stops.free stops.stuck (length-Run T s b w e c x (Run-from_Stops T s b w m e c x h l stops))

-- what is open and another number is open beside that number
pub is_open-cons : (b w : ℕ) (e : List ℕ) (n k : ℕ) → eqb n k ≡ false → is_open b w e k ≡ true → is_open b w (n ∷ e) k ≡ true
is_open-cons b w e n k other h = rw (ne_eqb k n (λ e. no other (eq-eqb n k (sym e)))) h
  where
    no : {x : Bool} → x ≡ false → x ≡ true → ⊥
    no p q = cc

pub opened-cons : (b w : ℕ) (e : List ℕ) (n : ℕ) (c : List ℕ) → AllByRecursion (λ k. eqb n k ≡ false) c → AllByRecursion (λ k. is_open b w e k ≡ true) c → AllByRecursion (λ k. is_open b w (n ∷ e) k ≡ true) c
opened-cons b w e n [] others h = tt
opened-cons b w e n (k ∷ c) others h = (is_open-cons b w e n k others.0 h.0, opened-cons b w e n c others.1 h.1)

-- No run is longer than the longest.
pub is_longest : (k : ℕ) (T : List ℕ) (s b w : ℕ) (e c : List ℕ) (x : ℕ) → Run T s b w e c x → length c ≤ k → length c ≤ length (longest k T s b w e)
unfolding longest IsDistinct
is_longest k T s b w e [] x r short = omega arith
is_longest zero T s b w e (n ∷ c) x r short = absurd (omega arith)
is_longest (suc k) T s b w e (n ∷ c) x r short =
    let run : Run T (word T n) b w (n ∷ e) c x = record { linked = r.linked.1; distinct = r.distinct.1; opened = opened-cons b w e n c r.distinct.0 r.opened.1 } in
    let rest : length c ≤ length (longest k T (word T n) b w (n ∷ e)) = is_longest k T (word T n) b w (n ∷ e) c x run (omega arith) in
    rw (r.linked.0, cond-true (is_open b w e n) (n ∷ longest k T (word T n) b w (n ∷ e)) [] r.opened.0) (omega arith)

pub or-swap : (x y : Bool) → (x || y) ≡ (y || x)
or-swap true true = refl
or-swap true false = refl
or-swap false true = refl
or-swap false false = refl

pub Marks-swap : (m : List Bool) (c e : List ℕ) → Marks m (c ++ e) → Marks m (e ++ c)
Marks-swap m c e h = λ n below. h n below ∙ (list_any-append (eqb n) c e ∙ or-swap (member n c) (member n e) ∙ sym (list_any-append (eqb n) e c))
