-- Edited trees keep to what trees keep to.
use Rattle.std.proofs.Common.{◌≡◌, ℕ, suc, ◌-◌, ◌≤◌, get_or, List, [], ◌∷◌, refl, sym, subst, arith}
use Rattle.std.specs.Prelude.{Bool, true, false, not, cond, Result, Ok, Err, All, Contains}
use Rattle.std.specs.List.{AllByRecursion, filter, list_any}
use Rattle.std.specs.declared.cmp.Ordering.{Ordering}
use Rattle.std.specs.declared.cmp.Ordering.TheVariants.{Less, Equal, Greater}
use Rattle.std.proofs.lemmas.List.Kept.{AllPairs-filter}
use Rattle.carrier_model.specs.Keys.{Key}
use Rattle.carrier_model.specs.Sorted.{choose, with_element}
use Rattle.carrier_model.specs.Tree.{Message, Attachments, no_more, attached, Attached, listed, depth, depth_in, depth_at, GREATEST_LEVEL}
use Rattle.carrier_model.specs.Trees.{IsPropList, HasPropLists, HavePropLists, BodyHasPropLists, KeyHasUnits, IsTree}
use Rattle.carrier_model.specs.Values.{Prop, IsProp, kind_of, prop_cmp}
use Rattle.carrier_model.proofs.Elements.{all_of}
use Rattle.carrier_model.proofs.Orders.{prop_total}
use Rattle.carrier_model.proofs.SortedElements.{every_elements}
use Rattle.carrier_model.proofs.SortedLists.{with_element_sorted}
use Rattle.edit_model.specs.Edits.{Edit, set_prop, remove_prop, add_recipient, drop_recipient, drop_attachment, Why, no_property, has_pair, without_pair, without_prop, edited_once, edited_tree, Makes, IsEdit}
use Rattle.edit_model.proofs.Kept.{Known, KeepsLists, edit_kept}
use Rattle.edit_model.proofs.Made.{made_sound}

-- ---- lists

each_of : {A : Type 0} (P : A → Type 0) (xs : List A) → All P xs → AllByRecursion P xs
each_of P [] h = tt
each_of P (x ∷ xs) h = (h 0 x (omega arith), each_of P xs (λ k d lt. h (suc k) d (omega (arith, lt))))

all_filter : {A : Type 0} (P : A → Type 0) (p : A → Bool) (xs : List A) → AllByRecursion P xs → AllByRecursion P (filter p xs)
all_filter P p [] h = tt
all_filter P p (x ∷ xs) h = by (p x) (all_filter P p xs h.1)
  where
    by : (b : Bool) → AllByRecursion P (filter p xs) → AllByRecursion P (cond b (x ∷ filter p xs) (filter p xs))
    by true rest = (h.0, rest)
    by false rest = rest

-- what a filter leaves passes its test
filter_passes : {A : Type 0} (p : A → Bool) (xs : List A) → AllByRecursion (λ x. p x ≡ true) (filter p xs)
filter_passes p [] = tt
filter_passes {A} p (x ∷ xs) = by (p x) refl (filter_passes p xs)
  where
    by : (b : Bool) → p x ≡ b → AllByRecursion (λ (y : A). p y ≡ true) (filter p xs) → AllByRecursion (λ (y : A). p y ≡ true) (cond b (x ∷ filter p xs) (filter p xs))
    by true is rest = (is, rest)
    by false is rest = rest

-- ---- property lists

without_is : (key : Key) (kind : ℕ) (ps : List Prop) → IsPropList ps → IsPropList (without_pair key kind ps)
without_is key kind ps h = record {
  sorted = AllPairs-filter (λ x y. prop_cmp x y ≡ Less) (λ p. not (has_pair key kind p)) ps h.sorted;
  each = all_of IsProp (without_pair key kind ps) (all_filter IsProp (λ p. not (has_pair key kind p)) ps (each_of IsProp ps h.each));
  units = all_of (λ p. KeyHasUnits p.key) (without_pair key kind ps) (all_filter (λ p. KeyHasUnits p.key) (λ p. not (has_pair key kind p)) ps (each_of (λ p. KeyHasUnits p.key) ps h.units));
}

unequal : (o : Ordering) → not (choose o false true false) ≡ true → o ≡ Equal → ⊥
unequal Less h e = cc
unequal Equal h e = cc
unequal Greater h e = cc

-- no property that is left has the pair
left_differs : (p : Prop) (ps : List Prop) (y : Prop) → Contains (without_pair p.key (kind_of p.value) ps) y → prop_cmp y p ≡ Equal → ⊥
left_differs p ps y (k, lt, at) e =
    let passes : not (has_pair p.key (kind_of p.value) (get_or (without_pair p.key (kind_of p.value) ps) k y)) ≡ true = all_of (λ x. not (has_pair p.key (kind_of p.value) x) ≡ true) (without_pair p.key (kind_of p.value) ps) (filter_passes (λ x. not (has_pair p.key (kind_of p.value) x)) ps) k y lt in
    unequal (prop_cmp y p) (subst (λ x. not (has_pair p.key (kind_of p.value) x) ≡ true) at passes) e

with_is : (p : Prop) (ps : List Prop) → IsProp p → KeyHasUnits p.key → IsPropList ps → IsPropList (with_element prop_cmp (without_pair p.key (kind_of p.value) ps) p)
with_is p ps good units h =
    let left = without_is p.key (kind_of p.value) ps h in
    let rest : List Prop = without_pair p.key (kind_of p.value) ps in
    record {
      sorted = with_element_sorted prop_total rest p left.sorted (left_differs p ps);
      each = all_of IsProp (with_element prop_cmp rest p) (every_elements prop_cmp IsProp (p ∷ []) rest (each_of IsProp rest left.each) (good, tt));
      units = all_of (λ q. KeyHasUnits q.key) (with_element prop_cmp rest p) (every_elements prop_cmp (λ q. KeyHasUnits q.key) (p ∷ []) rest (each_of (λ q. KeyHasUnits q.key) rest left.units) (units, tt));
    }

is_same : {A : Type 0} (P : A → Type 0) (x y : A) → ◌≡◌ {A = Result A Why} (Ok x) (Ok y) → P x → P y
is_same P x y h p = let same : x ≡ y = cc in subst P same p

removed_is : (key : Key) (kind : ℕ) (ps qs : List Prop) → IsPropList ps → without_prop key kind ps ≡ Ok qs → IsPropList qs
removed_is key kind ps qs h is = by (list_any (has_pair key kind) ps) is
  where
    by : (b : Bool) → ◌≡◌ {A = Result (List Prop) Why} (cond b (Ok (without_pair key kind ps)) (Err no_property)) (Ok qs) → IsPropList qs
    by true e = is_same IsPropList (without_pair key kind ps) qs e (without_is key kind ps h)
    by false e = absurd cc

lists_kept : (e : Edit) → IsEdit e → KeepsLists IsPropList e
lists_kept (set_prop place p) good = λ ps qs h is. is_same IsPropList (with_element prop_cmp (without_pair p.key (kind_of p.value) ps) p) qs is (with_is p ps good.0 good.1 h)
lists_kept (remove_prop place key kind) good = removed_is key kind
lists_kept (add_recipient path) good = tt
lists_kept (drop_recipient path n) good = tt
lists_kept (drop_attachment path n) good = tt

-- ---- lists of attachments

abbrev HasLists : Attached → Type 0
HasLists one = IsPropList one.0 × BodyHasPropLists one.1

lists_each : (os : Attachments) → HavePropLists os → AllByRecursion HasLists (listed os)
lists_each no_more h = tt
lists_each (attached ps b os) h = ((h.0, h.1.0), lists_each os h.1.1)

lists_all : (os : Attachments) → AllByRecursion HasLists (listed os) → HavePropLists os
lists_all no_more h = tt
lists_all (attached ps b os) h = (h.0.0, (h.0.1, lists_all os h.1))

nothing_is : IsPropList []
nothing_is = record { sorted = λ i j d lt in_range. absurd (omega (arith, in_range)); each = all_of IsProp [] tt; units = all_of (λ p. KeyHasUnits p.key) [] tt }

known_lists : Known (λ d t. HasPropLists t) IsPropList (λ d one. HasLists one)
known_lists = record {
  props = λ d ps rs os h. h.0;
  recipients = λ d ps rs os h. each_of IsPropList rs h.1.0;
  attachments = λ d ps rs os h. lists_each os h.1.1;
  whole = λ d ps rs os p r o. (p, (all_of IsPropList rs r, lists_all os o));
  first = λ d ps b h. h.0;
  changed = λ d ps qs b h q. (q, h.1);
  inner = λ d ps m h. (0, h.1, λ n k. (h.0, k));
  none = nothing_is;
}

-- ---- depth

levels_each : (d : ℕ) (os : Attachments) → depth_in os ≤ d → AllByRecursion (λ one. depth_at one ≤ d) (listed os)
levels_each d no_more h = tt
levels_each d (attached ps b os) h = (omega (arith, h), levels_each d os (omega (arith, h)))

levels_all : (d : ℕ) (os : Attachments) → AllByRecursion (λ one. depth_at one ≤ d) (listed os) → depth_in os ≤ d
levels_all d no_more h = omega arith
levels_all d (attached ps b os) h = omega (arith, h.0, levels_all d os h.1)

all_true : {A : Type 0} (xs : List A) → AllByRecursion (λ (x : A). Unit {0}) xs
all_true [] = tt
all_true (x ∷ xs) = (tt, all_true xs)

known_levels : Known (λ d t. depth t ≤ d) (λ ps. Unit {0}) (λ d one. depth_at one ≤ d)
known_levels = record {
  props = λ d ps rs os h. tt;
  recipients = λ d ps rs os h. all_true rs;
  attachments = λ d ps rs os h. levels_each d os h;
  whole = λ d ps rs os p r o. levels_all d os o;
  first = λ d ps b h. tt;
  changed = λ d ps qs b h q. h;
  inner = λ d ps m h. (d - 1, omega (arith, h), λ n k. omega (arith, h, k));
  none = tt;
}

pub keeps_any : (e : Edit) → KeepsLists (λ ps. Unit {0}) e
keeps_any (set_prop place p) = λ ps qs h is. tt
keeps_any (remove_prop place key kind) = λ ps qs h is. tt
keeps_any (add_recipient path) = tt
keeps_any (drop_recipient path n) = tt
keeps_any (drop_attachment path n) = tt

-- one edit makes no tree deeper
pub once_depth : (e : Edit) (d : ℕ) (t u : Message) → depth t ≤ d → edited_once e t ≡ Ok u → depth u ≤ d
once_depth e d t u h is = edit_kept known_levels e d t u (keeps_any e) h is

once_tree : (e : Edit) (t u : Message) → IsEdit e → IsTree t → edited_once e t ≡ Ok u → IsTree u
once_tree e t u good h is = record {
  lists = edit_kept known_lists e 0 t u (lists_kept e good) h.lists is;
  levels = once_depth e GREATEST_LEVEL t u h.levels is;
}

makes_tree : (es : List Edit) (t u : Message) → AllByRecursion IsEdit es → IsTree t → Makes es t u → IsTree u
makes_tree [] t u good h m = subst IsTree (sym m) h
makes_tree (e ∷ es) t u good h (next, is, rest) = makes_tree es next u good.1 (once_tree e t next good.0 h is) rest

pub edited_is_tree : (es : List Edit) (t u : Message) → All IsEdit es → IsTree t → edited_tree es t ≡ Ok u → IsTree u
edited_is_tree es t u good h is = makes_tree es t u (each_of IsEdit es good) h (made_sound 0 es t u is)
