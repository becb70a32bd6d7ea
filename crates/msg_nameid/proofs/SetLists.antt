-- Property sets, as sorted names bring them.
use Rattle.std.proofs.Common.{◌≡◌, ℕ, suc, ◌+◌, ◌-◌, ◌≤◌, Bool, true, false, not, ◌||◌, cond, List, [], ◌∷◌, ◌++◌, length, map, Some, refl, sym, ap, subst, ◌∙◌, append_assoc, arith}
use Rattle.std.specs.Prelude.{bytes_eq, slice_get, filter, unwrap_or}
use Rattle.std.specs.Cmp.Lexicographic.{slice_cmp}
use Rattle.std.specs.Ordering.{nat_cmp, ordering_then, ordering_reverse}
use Rattle.std.specs.List.{position_from, AllByRecursion}
use Rattle.std.specs.declared.cmp.Ordering.{Ordering}
use Rattle.std.specs.declared.cmp.Ordering.TheVariants.{Less, Equal, Greater}
use Rattle.std.proofs.lemmas.Bool.{cond-true, cond-false}
use Rattle.std.proofs.lemmas.Cmp.{nat_list_cmp_total}
use Rattle.std.proofs.lemmas.List.{append-nil}
use Rattle.std.proofs.lemmas.Map.Lookups.{exact_bytes}
use Rattle.std.proofs.lemmas.Slice.Eq.{bytes_eq-Decides}
use Rattle.carrier_model.specs.Keys.{Name, set_of, label_cmp, name_cmp}
use Rattle.carrier_model.specs.Sorted.{IsStrictlySorted, choose, with_element, with_elements}
use Rattle.carrier_model.proofs.Orders.{name_total}
use Rattle.carrier_model.proofs.SortedElements.{every_from}
use Rattle.carrier_model.proofs.SortedLists.{tail_sorted, head_less}
use Rattle.msg_model.specs.WrittenNames.{PS_MAPI, PS_PUBLIC_STRINGS, is_fixed_set, set_index}
use Rattle.msg_nameid.specs.Gathered.{Gathered, is_set, ends_with, with_set, last_index, with_name, gathered}

abbrev Set : Type 0
Set = List ℕ

abbrev pub by_bytes : Set → Set → Ordering
by_bytes = slice_cmp nat_cmp

abbrev pub AtMost : Set → Set → Type 0
AtMost x y = by_bytes x y ≡ Greater → ⊥

-- ---- bytes

same_bytes : (x y : Set) → x ≡ y → bytes_eq x y ≡ true
same_bytes x y e = by (bytes_eq x y) (bytes_eq-Decides x y)
  where
    by : (b : Bool) → ((b ≡ true → x ≡ y) × (x ≡ y → b ≡ true)) → b ≡ true
    by b d = d.1 e

other_bytes : (x y : Set) → (x ≡ y → ⊥) → bytes_eq x y ≡ false
other_bytes x y n = by (bytes_eq x y) (bytes_eq-Decides x y)
  where
    by : (b : Bool) → ((b ≡ true → x ≡ y) × (x ≡ y → b ≡ true)) → b ≡ false
    by true d = absurd (n (d.0 refl))
    by false d = refl

read_bytes : (x y : Set) → bytes_eq x y ≡ true → x ≡ y
read_bytes x y e = by (bytes_eq x y) (bytes_eq-Decides x y) e
  where
    by : (b : Bool) → ((b ≡ true → x ≡ y) × (x ≡ y → b ≡ true)) → b ≡ true → x ≡ y
    by b d e = d.0 e

less_differs : (x y : Set) → by_bytes x y ≡ Less → x ≡ y → ⊥
less_differs x y e s =
    let f : by_bytes x x ≡ Less = ap (by_bytes x) s ∙ e in
    let h : Less ≡ Greater = sym f ∙ (nat_list_cmp_total.antisymm x x ∙ ap ordering_reverse f) in cc

less_at_most : (x y z : Set) → by_bytes x y ≡ Less → AtMost y z → by_bytes x z ≡ Less
less_at_most x y z e h = by (by_bytes y z) refl
  where
    by : (o : Ordering) → by_bytes y z ≡ o → by_bytes x z ≡ Less
    by Less f = nat_list_cmp_total.trans x y z e f
    by Equal f = subst (λ (w : Set). by_bytes x w ≡ Less) (exact_bytes y z f) e
    by Greater f = absurd (h f)

-- ---- the last of some sets

-- each set is below the later ones
abbrev pub Rising : List Set → Type 0
Rising [] = Unit {0}
Rising (y ∷ ys) = AllByRecursion (λ z. by_bytes y z ≡ Less) ys × Rising ys

abbrev pub NoneAbove : Set → List Set → Type 0
NoneAbove x sets = AllByRecursion (λ y. AtMost y x) sets

ends_more : (y z x : Set) (zs : List Set) → ends_with (y ∷ z ∷ zs) x ≡ ends_with (z ∷ zs) x
ends_more y z x zs = ap (λ (n : ℕ). is_set (slice_get (y ∷ z ∷ zs) n) x) (let e : length (y ∷ z ∷ zs) - 1 ≡ suc (length (z ∷ zs) - 1) = omega arith in e)

cond_front : (b : Bool) (y : Set) (l m : List Set) → y ∷ cond b l m ≡ cond b (y ∷ l) (y ∷ m)
cond_front true y l m = refl
cond_front false y l m = refl

with_end : (sets : List Set) (x : Set) → Rising sets → NoneAbove x sets → with_element by_bytes sets x ≡ cond (ends_with sets x) sets (sets ++ x ∷ [])
with_end [] x r h = refl
with_end (y ∷ []) x r h = by (by_bytes y x) refl
  where
    by : (o : Ordering) → by_bytes y x ≡ o → choose o (y ∷ x ∷ []) (y ∷ []) (x ∷ y ∷ []) ≡ cond (bytes_eq y x) (y ∷ []) (y ∷ x ∷ [])
    by Less e = sym (cond-false (bytes_eq y x) _ _ (other_bytes y x (less_differs y x e)))
    by Equal e = sym (cond-true (bytes_eq y x) _ _ (same_bytes y x (exact_bytes y x e)))
    by Greater e = absurd (h.0 e)
with_end (y ∷ z ∷ zs) x r h =
    ap (λ (o : Ordering). choose o (y ∷ with_element by_bytes (z ∷ zs) x) (y ∷ z ∷ zs) (x ∷ y ∷ z ∷ zs)) (less_at_most y z x r.0.0 h.1.0)
    ∙ (ap (λ (l : List Set). y ∷ l) (with_end (z ∷ zs) x r.1 h.1)
    ∙ (cond_front (ends_with (z ∷ zs) x) y (z ∷ zs) (z ∷ zs ++ x ∷ [])
    ∙ ap (λ b. cond b (y ∷ z ∷ zs) (y ∷ z ∷ zs ++ x ∷ [])) (sym (ends_more y z x zs))))

all_below : (sets : List Set) (x : Set) → Rising sets → NoneAbove x sets → ends_with sets x ≡ false → AllByRecursion (λ y. by_bytes y x ≡ Less) sets
all_below [] x r h e = tt
all_below (y ∷ []) x r h e = (by (by_bytes y x) refl, tt)
  where
    by : (o : Ordering) → by_bytes y x ≡ o → o ≡ Less
    by Less f = refl
    by Equal f = let t : false ≡ true = sym e ∙ same_bytes y x (exact_bytes y x f) in cc
    by Greater f = absurd (h.0 f)
all_below (y ∷ z ∷ zs) x r h e = (less_at_most y z x r.0.0 h.1.0, all_below (z ∷ zs) x r.1 h.1 (sym (ends_more y z x zs) ∙ e))

all_push : (P : Set → Type 0) (sets : List Set) (x : Set) → AllByRecursion P sets → P x → AllByRecursion P (sets ++ x ∷ [])
all_push P [] x all one = (one, tt)
all_push P (y ∷ ys) x all one = (all.0, all_push P ys x all.1 one)

rising_push : (sets : List Set) (x : Set) → Rising sets → AllByRecursion (λ y. by_bytes y x ≡ Less) sets → Rising (sets ++ x ∷ [])
rising_push [] x r h = (tt, tt)
rising_push (y ∷ ys) x r h = (all_push (λ z. by_bytes y z ≡ Less) ys x r.0 h.0, rising_push ys x r.1 h.1)

ends_push : (sets : List Set) (x : Set) → ends_with (sets ++ x ∷ []) x ≡ true
ends_push [] x = same_bytes x x refl
ends_push (y ∷ []) x = same_bytes x x refl
ends_push (y ∷ z ∷ zs) x = ends_more y z x (zs ++ x ∷ []) ∙ ends_push (z ∷ zs) x

last_holds : (P : Set → Type 0) (sets : List Set) (x : Set) → AllByRecursion P sets → ends_with sets x ≡ true → P x
last_holds P [] x all e = let t : false ≡ true = e in cc
last_holds P (y ∷ []) x all e = subst P (read_bytes y x e) all.0
last_holds P (y ∷ z ∷ zs) x all e = last_holds P (z ∷ zs) x all.1 (sym (ends_more y z x zs) ∙ e)

-- ---- one set more

rising_with : (sets : List Set) (x : Set) → Rising sets → NoneAbove x sets → Rising (with_set sets x)
rising_with sets x r h = by (is_fixed_set x) (ends_with sets x) refl
  where
    by : (a b : Bool) → ends_with sets x ≡ b → Rising (cond (a || b) sets (sets ++ x ∷ []))
    by true b e = r
    by false true e = r
    by false false e = rising_push sets x r (all_below sets x r h e)

none_above_with : (sets : List Set) (x y : Set) → NoneAbove y sets → AtMost x y → NoneAbove y (with_set sets x)
none_above_with sets x y h le = by (is_fixed_set x || ends_with sets x)
  where
    by : (b : Bool) → NoneAbove y (cond b sets (sets ++ x ∷ []))
    by true = h
    by false = all_push (λ z. AtMost z y) sets x h le

ends_with_it : (sets : List Set) (x : Set) → is_fixed_set x ≡ false → ends_with (with_set sets x) x ≡ true
ends_with_it sets x plain = ap (λ a. ends_with (cond (a || ends_with sets x) sets (sets ++ x ∷ [])) x) plain ∙ by (ends_with sets x) refl
  where
    by : (b : Bool) → ends_with sets x ≡ b → ends_with (cond b sets (sets ++ x ∷ [])) x ≡ true
    by true e = e
    by false e = ends_push sets x

-- ---- the index of the last set

last_place : (sets more : List Set) (x : Set) (i : ℕ) → Rising sets → ends_with sets x ≡ true → position_from (bytes_eq x) i (sets ++ more) ≡ Some (i + (length sets - 1))
last_place [] more x i r e = let t : false ≡ true = e in cc
last_place (y ∷ []) more x i r e = cond-true (bytes_eq x y) _ _ (same_bytes x y (sym (read_bytes y x e))) ∙ ap Some (let z : i ≡ i + 0 = omega arith in z)
last_place (y ∷ z ∷ zs) more x i r e =
    let ends : ends_with (z ∷ zs) x ≡ true = sym (ends_more y z x zs) ∙ e in
    let less : by_bytes y x ≡ Less = last_holds (λ w. by_bytes y w ≡ Less) (z ∷ zs) x r.0 ends in
    cond-false (bytes_eq x y) _ _ (other_bytes x y (λ s. less_differs y x less (sym s)))
    ∙ (last_place (z ∷ zs) more x (i + 1) r.1 ends ∙ ap Some (let n : i + 1 + (length (z ∷ zs) - 1) ≡ i + (length (y ∷ z ∷ zs) - 1) = omega arith in n))

some_sets : (sets : List Set) (x : Set) → ends_with sets x ≡ true → 1 ≤ length sets
some_sets [] x e = let t : false ≡ true = e in cc
some_sets (y ∷ ys) x e = omega arith

pub index_is : (sets more : List Set) (x : Set) → Rising (with_set sets x) → set_index (with_set sets x ++ more) x ≡ last_index (with_set sets x) x
index_is sets more x r = by (bytes_eq x PS_MAPI) (bytes_eq x PS_PUBLIC_STRINGS) refl refl
  where
    at : ℕ
    at = unwrap_or (position_from (bytes_eq x) 0 (with_set sets x ++ more)) 0

    by : (a b : Bool) → bytes_eq x PS_MAPI ≡ a → bytes_eq x PS_PUBLIC_STRINGS ≡ b → cond a 1 (cond b 2 (3 + at)) ≡ cond a 1 (cond b 2 (2 + length (with_set sets x)))
    by true b e f = refl
    by false true e f = refl
    by false false e f =
        let plain : is_fixed_set x ≡ false = ap (λ c. c || bytes_eq x PS_PUBLIC_STRINGS) e ∙ f in
        let ends = ends_with_it sets x plain in
        let place : at ≡ length (with_set sets x) - 1 = ap (λ o. unwrap_or o 0) (last_place (with_set sets x) more x 0 r ends) ∙ (let z : 0 + (length (with_set sets x) - 1) ≡ length (with_set sets x) - 1 = omega arith in z) in
        omega (arith, place, some_sets (with_set sets x) x ends)

-- ---- sorted names

-- no set of a name is above that of a later one
abbrev pub Climbs : List Name → Type 0
Climbs [] = Unit {0}
Climbs (n ∷ ns) = AllByRecursion (λ m. AtMost (set_of n) (set_of m)) ns × Climbs ns

set_at_most : (n m : Name) → name_cmp n m ≡ Less → AtMost (set_of n) (set_of m)
set_at_most n m e f = let t : Greater ≡ Less = sym (ap (λ o. ordering_then o (label_cmp n m)) f) ∙ e in cc

pub sorted_climbs : (ns : List Name) → IsStrictlySorted name_cmp ns → Climbs ns
sorted_climbs [] s = tt
sorted_climbs (n ∷ ns) s = (every_from (λ m. AtMost (set_of n) (set_of m)) ns (λ m c. set_at_most n m (head_less name_total n ns m s c)), sorted_climbs ns (tail_sorted name_total n ns s))

-- sets to which those of some names may be added
pub record Fit (sets : List Set) (ns : List Name) : Type 0 where
  pub rising : Rising sets
  pub below : AllByRecursion (λ n. NoneAbove (set_of n) sets) ns
  pub climbs : Climbs ns

below_with : (sets : List Set) (x : Set) (ns : List Name) → AllByRecursion (λ n. NoneAbove (set_of n) sets) ns → AllByRecursion (λ m. AtMost x (set_of m)) ns → AllByRecursion (λ n. NoneAbove (set_of n) (with_set sets x)) ns
below_with sets x [] h le = tt
below_with sets x (n ∷ ns) h le = (none_above_with sets x (set_of n) h.0 le.0, below_with sets x ns h.1 le.1)

pub fit_next : (sets : List Set) (n : Name) (ns : List Name) → Fit sets (n ∷ ns) → Fit (with_set sets (set_of n)) ns
fit_next sets n ns f = record {
  rising = rising_with sets (set_of n) f.rising f.below.0;
  below = below_with sets (set_of n) ns f.below.1 f.climbs.0;
  climbs = f.climbs.1;
}

none_below : (ns : List Name) → AllByRecursion (λ n. NoneAbove (set_of n) []) ns
none_below [] = tt
none_below (n ∷ ns) = (tt, none_below ns)

pub fit_none : (ns : List Name) → IsStrictlySorted name_cmp ns → Fit [] ns
fit_none ns s = record { rising = tt; below = none_below ns; climbs = sorted_climbs ns s }

pub sets_are : (g : Gathered) (k : ℕ) (ns : List Name) → Fit g.sets ns → (gathered g k ns).sets ≡ with_elements by_bytes g.sets (filter (λ set. not (is_fixed_set set)) (map set_of ns))
sets_are g k [] f = refl
sets_are g k (n ∷ ns) f = sets_are (with_name g k n) (k + 1) ns (fit_next g.sets n ns f) ∙ by (is_fixed_set (set_of n))
  where
    x : Set
    x = set_of n

    rest : List Set
    rest = filter (λ set. not (is_fixed_set set)) (map set_of ns)

    by : (b : Bool) → with_elements by_bytes (cond (b || ends_with g.sets x) g.sets (g.sets ++ x ∷ [])) rest ≡ with_elements by_bytes g.sets (cond (not b) (x ∷ rest) rest)
    by true = refl
    by false = ap (λ (l : List Set). with_elements by_bytes l rest) (sym (with_end g.sets x f.rising f.below.0))

-- what was there stays in front
pub sets_grow : (g : Gathered) (k : ℕ) (ns : List Name) → (more : List Set) × ((gathered g k ns).sets ≡ g.sets ++ more)
sets_grow g k [] = ([], sym (append-nil g.sets))
sets_grow g k (n ∷ ns) = let (more, e) = sets_grow (with_name g k n) (k + 1) ns in by more e (is_fixed_set (set_of n) || ends_with g.sets (set_of n)) refl
  where
    last : List Set
    last = (gathered (with_name g k n) (k + 1) ns).sets

    by : (more : List Set) → last ≡ with_set g.sets (set_of n) ++ more → (b : Bool) → is_fixed_set (set_of n) || ends_with g.sets (set_of n) ≡ b → (all : List Set) × (last ≡ g.sets ++ all)
    by more e true f = (more, e ∙ ap (λ (b : Bool). cond b g.sets (g.sets ++ set_of n ∷ []) ++ more) f)
    by more e false f = (set_of n ∷ more, e ∙ (ap (λ (b : Bool). cond b g.sets (g.sets ++ set_of n ∷ []) ++ more) f ∙ append_assoc g.sets (set_of n ∷ []) more))
