-- Slots, and the names to which they lead.
use Rattle.std.proofs.Common.{◌≡◌, ℕ, zero, suc, ◌+◌, ◌-◌, ◌<◌, ◌≤◌, Bool, true, false, List, [], ◌∷◌, ◌++◌, length, refl, sym, ap, subst, ◌∙◌, arith, Option, Some, None, length-append}
use Rattle.std.specs.Prelude.{if◌then◌else◌, nat_eq, slice_get, replicate}
use Rattle.std.specs.Option.{option_map}
use Rattle.std.proofs.Math.ListN.{set}
use Rattle.std.proofs.lemmas.Bool.{cond-true, cond-false, eqb-true, eqb-false, eq-eqb, ne_eqb}
use Rattle.carrier_model.specs.Keys.{Name}
use Rattle.msg_model.specs.NameMap.{Pair, name_for}
use Rattle.msg_nameid.specs.Tables.{slot_at, is_taken, count_taken, name_in, IsPlaced, IsTable}
use Rattle.msg_nameid.specs.declared.slots.Slot.{Slot}
use Rattle.msg_nameid.specs.declared.slots.Slot.TheVariants.{Free, Nameless, Named}

-- ---- slots

no_free_taken : (n : ℕ) → count_taken (replicate n Free) ≡ 0
no_free_taken zero = refl
no_free_taken (suc n) = omega (arith, no_free_taken n)

pub count_taken-longer : (slots : List Slot) (n : ℕ) → count_taken (slots ++ replicate n Free) ≡ count_taken slots
count_taken-longer [] n = no_free_taken n
count_taken-longer (s ∷ slots) n = ap (λ m. (if is_taken s then 1 else 0) + m) (count_taken-longer slots n)

pub count_taken_le : (slots : List Slot) → count_taken slots ≤ length slots
count_taken_le [] = omega arith
count_taken_le (Free ∷ slots) = omega (arith, count_taken_le slots)
count_taken_le (Nameless ∷ slots) = omega (arith, count_taken_le slots)
count_taken_le (Named place ∷ slots) = omega (arith, count_taken_le slots)

pub count_taken-set : (slots : List Slot) (i : ℕ) (x : Slot) → i < length slots → is_taken (slot_at slots i) ≡ false → is_taken x ≡ true → count_taken (set slots i x) ≡ count_taken slots + 1
count_taken-set [] i x lt free taken = absurd (omega (arith, lt))
count_taken-set (s ∷ slots) zero x lt free taken =
    ap (λ (b : Bool). (if b then 1 else 0) + count_taken slots) taken
    ∙ (omega arith ∙ ap (λ (b : Bool). (if b then 1 else 0) + count_taken slots + 1) (sym free))
count_taken-set (s ∷ slots) (suc i) x lt free taken = ap (λ m. (if is_taken s then 1 else 0) + m) (count_taken-set slots i x (omega (arith, lt)) free taken) ∙ omega arith

pub not_taken : (s : Slot) → is_taken s ≡ false → s ≡ Free
not_taken Free e = refl
not_taken Nameless e = absurd cc
not_taken (Named place) e = absurd cc

-- ---- the names of ids, with one pair more

pub name_for-other : (pairs : List Pair) (i : ℕ) (x : Name) (n : ℕ) → (i ≡ n → ⊥) → name_for (pairs ++ (i, x) ∷ []) n ≡ name_for pairs n
name_for-other [] i x n differ = ap (option_map (λ (p : Pair). p.1)) (cond-false (nat_eq i n) (Some (i, x)) None (ne_eqb i n differ))
name_for-other (p ∷ pairs) i x n differ = by (nat_eq p.0 n) _ _ (name_for-other pairs i x n differ)
  where
    by : (b : Bool) (r s : Option Pair) → option_map (λ (p : Pair). p.1) r ≡ option_map (λ (p : Pair). p.1) s → option_map (λ (p : Pair). p.1) (if b then Some p else r) ≡ option_map (λ (p : Pair). p.1) (if b then Some p else s)
    by true r s h = refl
    by false r s h = h

pub name_for-new : (pairs : List Pair) (i : ℕ) (x : Name) → name_for pairs i ≡ None → name_for (pairs ++ (i, x) ∷ []) i ≡ Some x
name_for-new [] i x none = ap (option_map (λ (p : Pair). p.1)) (cond-true (nat_eq i i) (Some (i, x)) None (eq-eqb i i refl))
name_for-new (p ∷ pairs) i x none = by (nat_eq p.0 i) _ _ (name_for-new pairs i x) none
  where
    by : (b : Bool) (r s : Option Pair) → (option_map (λ (p : Pair). p.1) r ≡ None → option_map (λ (p : Pair). p.1) s ≡ Some x) → option_map (λ (p : Pair). p.1) (if b then Some p else r) ≡ None → option_map (λ (p : Pair). p.1) (if b then Some p else s) ≡ Some x
    by true r s later h = absurd cc
    by false r s later h = later h

slice_get-front : (pairs : List Pair) (p : Pair) (k : ℕ) → k < length pairs → slice_get (pairs ++ p ∷ []) k ≡ slice_get pairs k
slice_get-front [] p k lt = absurd (omega (arith, lt))
slice_get-front (q ∷ pairs) p zero lt = refl
slice_get-front (q ∷ pairs) p (suc k) lt = slice_get-front pairs p k (omega (arith, lt))

slice_get-end : (pairs : List Pair) (p : Pair) → slice_get (pairs ++ p ∷ []) (length pairs) ≡ Some p
slice_get-end [] p = refl
slice_get-end (q ∷ pairs) p = slice_get-end pairs p

name_in-more : (pairs : List Pair) (p : Pair) (s : Slot) → IsPlaced (length pairs) s → name_in (pairs ++ p ∷ []) s ≡ name_in pairs s
name_in-more pairs p Free h = refl
name_in-more pairs p Nameless h = refl
name_in-more pairs p (Named place) h = ap (option_map (λ (q : Pair). q.1)) (slice_get-front pairs p place h)

placed-more : (n : ℕ) (s : Slot) → IsPlaced n s → IsPlaced (n + 1) s
placed-more n Free h = tt
placed-more n Nameless h = tt
placed-more n (Named place) h = omega (arith, h)

-- ---- tables

pub pairs_few : (slots : List Slot) (pairs : List Pair) → IsTable slots pairs → length pairs ≤ 0x8000
pairs_few slots pairs t = omega (arith, t.counted, t.few, count_taken_le slots)

module _ (slots new : List Slot) (pairs : List Pair) (k : ℕ) (t : IsTable slots pairs) (free : is_taken (slot_at slots k) ≡ false) (few : length new ≤ 0x8000) (count : count_taken new ≡ count_taken slots + 1) where
  none_yet : name_for pairs (0x8000 + k) ≡ None
  none_yet = t.each k ∙ ap (name_in pairs) (not_taken (slot_at slots k) free)

  pub table-named : (x : Name) → ((j : ℕ) → slot_at new j ≡ (if nat_eq j k then Named (length pairs) else slot_at slots j)) → IsTable new (pairs ++ (0x8000 + k, x) ∷ [])
  table-named x are = record {
    few = few;
    counted = omega (arith, long, t.counted, count);
    placed = λ j. subst (λ n. IsPlaced n (slot_at new j)) (sym long) (subst (IsPlaced (length pairs + 1)) (sym (are j)) (placed_by j (nat_eq j k)));
    low = λ n lt. name_for-other pairs (0x8000 + k) x n (λ e. omega (arith, e, lt)) ∙ t.low n lt;
    each = λ j. each_by j (nat_eq j k) refl;
  }
    where
      long : length (pairs ++ (0x8000 + k, x) ∷ []) ≡ length pairs + 1
      long = length-append pairs ((0x8000 + k, x) ∷ [])

      placed_by : (j : ℕ) (b : Bool) → IsPlaced (length pairs + 1) (if b then Named (length pairs) else slot_at slots j)
      placed_by j true = omega arith
      placed_by j false = placed-more (length pairs) (slot_at slots j) (t.placed j)

      each_by : (j : ℕ) (b : Bool) → nat_eq j k ≡ b → name_for (pairs ++ (0x8000 + k, x) ∷ []) (0x8000 + j) ≡ name_in (pairs ++ (0x8000 + k, x) ∷ []) (slot_at new j)
      each_by j true e =
          let same : j ≡ k = eqb-true j k e in
          let here : slot_at new j ≡ Named (length pairs) = are j ∙ cond-true (nat_eq j k) _ _ e in
          ap (λ (n : ℕ). name_for (pairs ++ (0x8000 + k, x) ∷ []) (0x8000 + n)) same
          ∙ (name_for-new pairs (0x8000 + k) x none_yet
          ∙ (sym (ap (option_map (λ (q : Pair). q.1)) (slice_get-end pairs (0x8000 + k, x)))
          ∙ ap (name_in (pairs ++ (0x8000 + k, x) ∷ [])) (sym here)))
      each_by j false e =
          let differ : j ≡ k → ⊥ = eqb-false j k e in
          let here : slot_at new j ≡ slot_at slots j = are j ∙ cond-false (nat_eq j k) _ _ e in
          name_for-other pairs (0x8000 + k) x (0x8000 + j) (λ f. differ (omega (arith, f)))
          ∙ (t.each j
          ∙ (sym (name_in-more pairs (0x8000 + k, x) (slot_at slots j) (t.placed j))
          ∙ ap (name_in (pairs ++ (0x8000 + k, x) ∷ [])) (sym here)))

-- the name to which a slot leads
pub named : (slots : List Slot) (pairs : List Pair) (t : IsTable slots pairs) (id place : ℕ) (p : Pair) → 0x8000 ≤ id → slot_at slots (id - 0x8000) ≡ Named place → slice_get pairs place ≡ Some p → name_for pairs id ≡ Some p.1
named slots pairs t id place p high h at =
    ap (name_for pairs) (let e : id ≡ 0x8000 + (id - 0x8000) = omega (arith, high) in e)
    ∙ (t.each (id - 0x8000) ∙ (ap (name_in pairs) h ∙ ap (option_map (λ (q : Pair). q.1)) at))

pub placed_there : (slots : List Slot) (pairs : List Pair) (t : IsTable slots pairs) (k place : ℕ) → slot_at slots k ≡ Named place → place < length pairs
placed_there slots pairs t k place h = subst (IsPlaced (length pairs)) h (t.placed k)
