-- A list of items, and what was read of it.
use Rattle.std.proofs.Common.{◌≡◌, inl, inr, ℕ, zero, suc, ◌+◌, ◌<◌, Bool, true, false, List, [], ◌∷◌, ◌++◌, length, drop, Option, Some, None, refl, sym, ap, subst, ◌∙◌, append_assoc, arith}
use Rattle.std.specs.Prelude.{◌||◌, filter_map}
use Rattle.std.specs.List.{list_any}
use Rattle.std.specs.declared.cmp.Ordering.{Ordering}
use Rattle.std.specs.declared.cmp.Ordering.TheVariants.{Less, Equal, Greater}
use Rattle.std.specs.Prelude.{is_some}
use Rattle.std.specs.List.{cons_option}
use Rattle.std.specs.Option.{option_map}
use Rattle.carrier_io.specs.Reads.{OnFault}
use Rattle.std.proofs.lemmas.List.{append-nil, length-append, drop_at}
use Rattle.std.proofs.lemmas.List.Elements.{filter_map-append}
use Rattle.std.proofs.lemmas.List.Folds.{Any-from_list_any, list_any-from_Any}
use Rattle.std.proofs.lemmas.Option.{slice_get_within}
use Rattle.carrier_io.specs.declared.reasons.Stop.{Stop}
use Rattle.carrier_io.proofs.Joined.{slice_get-append}
use Rattle.carrier_io.proofs.Sides.{on_fault}
use Rattle.carrier_model.specs.Sorted.{choose, with_elements}
use Rattle.carrier_model.specs.Values.{Prop, prop_cmp}
use Rattle.carrier_model.specs.Reasons.{DUPLICATE_LIST_PROPERTY}
use Rattle.carrier_model.specs.Grammar.{Form, Spans, Means, repeat, gives}
use Rattle.tnef_model.specs.TnefLists.{Item, kept, passed, carried, is_double, is_new, any_item, item, items, prop_in, passed_in, content_in, list_of, prop_list, PropList, word}
use Rattle.carrier_model.specs.Lists.{first_of_list}
use Rattle.carrier_model.proofs.Reading.{Continues, continues_then, continues_here, continues_on, continues_repeat, fails_repeat, spans_repeat}
use Rattle.tnef_props.specs.declared.rest.Rest.{Rest}
use Rattle.tnef_props.specs.Steps.{Takes, Refuses}
use Rattle.tnef_props.specs.ReadLists.{PassedAtFront}
use Rattle.tnef_props.specs.declared.list.Draft.{Draft}
use Rattle.tnef_props.specs.Meaning.{object_of}
use Rattle.tnef_props.specs.Scans.{IsEmpty, IsWith, IsSecondObject, IsDoubleFault, FirstDoubleFails, DoublesFail}
use Rattle.prop_values.specs.Ends.{HasPairOf}
use Rattle.prop_values.specs.Arrivals.{AreDifferent, AreMarksOf, Came, IsDoubleWith, IsFirstDouble}
use Rattle.tnef_props.proofs.Doubles.{slice_get-seam, different_front, different_last, first_double_push}
use Rattle.tnef_props.proofs.Forms.{such_takes, such_next, seen_takes, then_first}

abbrev pub is_equal : Ordering → Bool
is_equal o = choose o false true false

double_prop : (l : List Item) (p : Prop) → list_any (is_double (kept p)) l ≡ list_any (λ q. is_equal (prop_cmp q p)) (filter_map prop_in l)
double_prop [] p = refl
double_prop (kept q ∷ l) p = ap (λ (b : Bool). is_equal (prop_cmp q p) || b) (double_prop l p)
double_prop (passed t place ∷ l) p = double_prop l p
double_prop (carried place content ∷ l) p = double_prop l p

double_object : (l : List Item) (place : ℕ) (content : List ℕ) → list_any (is_double (carried place content)) l ≡ is_some (first_of_list (filter_map content_in l))
double_object [] place content = refl
double_object (kept q ∷ l) place content = double_object l place content
double_object (passed t other ∷ l) place content = double_object l place content
double_object (carried other others ∷ l) place content = refl

double_passed : (l : List Item) (t place : ℕ) → list_any (is_double (passed t place)) l ≡ false
double_passed [] t place = refl
double_passed (x ∷ l) t place = double_passed l t place

is_equal_of : (o : Ordering) → o ≡ Equal → is_equal o ≡ true
is_equal_of o e = rw e refl

equal_of : (o : Ordering) → is_equal o ≡ true → o ≡ Equal
equal_of Less e = absurd cc
equal_of Equal e = refl
equal_of Greater e = absurd cc

first-push : {A : Type 0} (l : List A) (x : A) → first_of_list l ≡ None → first_of_list (l ++ x ∷ []) ≡ Some x
first-push [] x e = refl
first-push (y ∷ l) x e = absurd cc

fm-none : {A B : Type 0} (h : A → Option B) (l : List A) (x : A) → h x ≡ None → filter_map h (l ++ x ∷ []) ≡ filter_map h l
fm-none {A} {B} h l x e = filter_map-append h l (x ∷ []) ∙ ap (λ (o : Option B). filter_map h l ++ cons_option o []) e ∙ append-nil (filter_map h l)

-- ---- the count

pub behind_word : (from rest : Rest) (n : ℕ) → Takes word from n rest → (rest.bytes.now ≡ drop 4 from.bytes.now) × (rest.place ≡ from.place + 4)
behind_word from rest n t =
    let s = t.begins.spelled in
    let len : length t.begins.text ≡ 4 = omega (arith, ap length s.parts, length-append s.front s.back, s.first.1, ap length s.second.1) in
    (sym (ap (drop 4) t.begins.parts ∙ drop_at t.begins.text rest.bytes.now 4 len), omega (arith, t.place, ap length t.begins.parts, length-append t.begins.text rest.bytes.now, len))

-- ---- the list as it grows

-- an item by itself, whatever stands before it
abbrev pub each : Bool → List Item → Form Item
each att before = any_item att

pub record Scanned (att : Bool) (from : Rest) (count k : ℕ) (arrivals : List Prop) (offsets : List ℕ) (object : Option (ℕ × List ℕ)) (old now : List (Bool × ℕ × ℕ)) (rest : Rest) : Type 0 where
  pub all : List Item
  pub long : length all ≡ k
  pub left : ℕ
  pub sum : left + k ≡ count
  pub counted : Means word from.place from.bytes.now count
  pub goes : AreDifferent arrivals → Continues (items att) from.place from.bytes.now (repeat left (item att) all) rest.place rest.bytes.now
  pub stand : (more : ℕ) → Continues (repeat (k + more) (each att) []) (from.place + 4) (drop 4 from.bytes.now) (repeat more (each att) all) rest.place rest.bytes.now
  pub arrivals_are : arrivals ≡ filter_map prop_in all
  pub object_is : object ≡ first_of_list (filter_map content_in all)
  pub passed_are : now ≡ old ++ filter_map passed_in all
  pub each_has_offset : length offsets ≡ length arrivals
  pub doubles : FirstDoubleFails att from arrivals offsets

pub scanned_none : (att : Bool) (from rest : Rest) (count : ℕ) (arrivals : List Prop) (object : Option (ℕ × List ℕ)) (old : List (Bool × ℕ × ℕ)) → arrivals ≡ [] → object ≡ None → Takes word from count rest → Scanned att from count 0 arrivals [] object old old rest
unfolding items
scanned_none att from rest count arrivals object old e o p = record {
  all = [];
  long = refl;
  left = count;
  sum = omega arith;
  counted = (rest.bytes.now, p.begins);
  goes = λ different. continues_then word (λ n. repeat n (item att) []) from.place from.bytes.now count rest.place rest.bytes.now p;
  stand = here;
  arrivals_are = e;
  object_is = o;
  passed_are = sym (append-nil old);
  each_has_offset = omega (arith, ap length e);
  doubles = λ k f. absurd (omega (arith, f.in_range, ap length e));
}
  where
    behind : (rest.bytes.now ≡ drop 4 from.bytes.now) × (rest.place ≡ from.place + 4)
    behind = behind_word from rest count p

    at_start : (more : ℕ) → Continues (repeat more (each att) []) (from.place + 4) (drop 4 from.bytes.now) (repeat more (each att) []) rest.place rest.bytes.now
    at_start more = subst (λ (z : ℕ). Continues (repeat more (each att) []) (from.place + 4) (drop 4 from.bytes.now) (repeat more (each att) []) z rest.bytes.now) (sym behind.1)
        (subst (λ (z : List ℕ). Continues (repeat more (each att) []) (from.place + 4) (drop 4 from.bytes.now) (repeat more (each att) []) (from.place + 4) z) (sym behind.0) (continues_here (repeat more (each att) []) (from.place + 4) (drop 4 from.bytes.now)))

    here : (more : ℕ) → Continues (repeat (0 + more) (each att) []) (from.place + 4) (drop 4 from.bytes.now) (repeat more (each att) []) rest.place rest.bytes.now
    here more = subst (λ (n : ℕ). Continues (repeat n (each att) []) (from.place + 4) (drop 4 from.bytes.now) (repeat more (each att) []) rest.place rest.bytes.now) (omega arith) (at_start more)

-- the whole list fails where its items do
pub list_fails : (att : Bool) (from : Rest) (g : ℕ × ℕ) → (items att).fails from.place from.bytes.now g → (prop_list att).fails from.place from.bytes.now g
unfolding prop_list
list_fails att from g p = inl p

pub list_refuses : (att : Bool) (from : Rest) (s : Stop) → Refuses (items att) from s → Refuses (prop_list att) from s
unfolding prop_list
list_refuses att from s p = then_first (items att) (λ l. gives (list_of l)) from s p

pub count_refuses : (att : Bool) (from : Rest) (s : Stop) → Refuses word from s → Refuses (prop_list att) from s
unfolding items
count_refuses att from s p = list_refuses att from s (then_first word (λ n. repeat n (item att) []) from s p)

double_fault_more : (att : Bool) (from : Rest) (offsets more : List ℕ) (k : ℕ) → IsDoubleFault att from offsets k → IsDoubleFault att from (offsets ++ more) k
double_fault_more att from offsets more k d = record { offset = d.offset; here = slice_get-append offsets more k (slice_get_within offsets k d.offset d.here) ∙ d.here; fault = d.fault }

-- more offsets change nothing
pub doubles_kept : (att : Bool) (from : Rest) (arrivals arrivals' : List Prop) (offsets offsets' more : List ℕ) → arrivals' ≡ arrivals → offsets' ≡ offsets ++ more → FirstDoubleFails att from arrivals offsets → FirstDoubleFails att from arrivals' offsets'
doubles_kept att from arrivals arrivals' offsets offsets' more e f h k d =
    subst (λ (z : List ℕ). IsDoubleFault att from z k) (sym f) (double_fault_more att from offsets more k (h k (subst (λ (z : List Prop). IsFirstDouble z k) e d)))

-- nothing was passed over
pub passed_none : (att : Bool) (at : ℕ) (bytes : List ℕ) (old : List (Bool × ℕ × ℕ)) → PassedAtFront att at bytes old old
passed_none att at bytes old = record {
  items = [];
  stand = (drop 4 bytes, (spans_repeat (each att) [] (at + 4) (drop 4 bytes)).begins);
  counted = inl refl;
  passed = sym (append-nil old);
}

module _ (att : Bool) (from : Rest) (count k : ℕ) (arrivals : List Prop) (offsets : List ℕ) (object : Option (ℕ × List ℕ)) (old now : List (Bool × ℕ × ℕ)) (rest : Rest) (g : Scanned att from count k arrivals offsets object old now rest) where
  -- what was passed over so far
  pub passed_at_front : PassedAtFront att from.place from.bytes.now old now
  passed_at_front =
      let here = g.stand 0 in
      let n : k + 0 ≡ length g.all = omega (arith, g.long) in
      record {
        items = g.all;
        stand = (rest.bytes.now, (subst (λ (m : ℕ). Spans (repeat m (each att) []) (from.place + 4) (drop 4 from.bytes.now) g.all rest.place rest.bytes.now) n (here.ok g.all rest.place rest.bytes.now (spans_repeat (each att) g.all rest.place rest.bytes.now))).begins);
        counted = inr (count, g.counted, omega (arith, g.long, g.sum));
        passed = g.passed_are;
      }

  module _ (lt : k < count) where
    pub scanned_fault : (s : Stop) → Refuses (any_item att) rest s → AreDifferent arrivals → Refuses (prop_list att) from s
    unfolding item
    scanned_fault s p d = list_refuses att from s (by g.left g.sum (g.goes d))
      where
        by : (left : ℕ) → left + k ≡ count → Continues (items att) from.place from.bytes.now (repeat left (item att) g.all) rest.place rest.bytes.now → Refuses (items att) from s
        by zero sum goes = absurd (omega arith)
        by (suc left) sum goes = on_fault ((any_item att).fails rest.place rest.bytes.now) ((items att).fails from.place from.bytes.now) (λ h e. goes.bad h (fails_repeat left (item att) g.all rest.place rest.bytes.now h (inl e))) s p

    pub scanned_double : (x : Item) (after : Rest) → Takes (any_item att) rest x after → list_any (is_double x) g.all ≡ true → AreDifferent arrivals → (prop_list att).fails from.place from.bytes.now (DUPLICATE_LIST_PROPERTY, rest.place)
    unfolding item
    scanned_double x after p e d = list_fails att from (DUPLICATE_LIST_PROPERTY, rest.place) (by g.left g.sum (g.goes d))
      where
        old_one : is_new g.all x ≡ false
        old_one = rw e refl

        by : (left : ℕ) → left + k ≡ count → Continues (items att) from.place from.bytes.now (repeat left (item att) g.all) rest.place rest.bytes.now → (items att).fails from.place from.bytes.now (DUPLICATE_LIST_PROPERTY, rest.place)
        by zero sum goes = absurd (omega arith)
        by (suc left) sum goes = goes.bad (DUPLICATE_LIST_PROPERTY, rest.place) (fails_repeat left (item att) g.all rest.place rest.bytes.now (DUPLICATE_LIST_PROPERTY, rest.place) (such_next (any_item att) (is_new g.all) DUPLICATE_LIST_PROPERTY rest after x p old_one))

    scanned_more : (x : Item) (after : Rest) (arrivals' : List Prop) (offsets' : List ℕ) (object' : Option (ℕ × List ℕ)) (now' : List (Bool × ℕ × ℕ)) → Takes (any_item att) rest x after
        → (AreDifferent arrivals' → AreDifferent arrivals × (list_any (is_double x) g.all ≡ false))
        → arrivals' ≡ filter_map prop_in (g.all ++ x ∷ []) → object' ≡ first_of_list (filter_map content_in (g.all ++ x ∷ [])) → now' ≡ old ++ filter_map passed_in (g.all ++ x ∷ [])
        → length offsets' ≡ length arrivals' → FirstDoubleFails att from arrivals' offsets'
        → Scanned att from count (k + 1) arrivals' offsets' object' old now' after
    unfolding item
    scanned_more x after arrivals' offsets' object' now' p apart a b c n f = by g.left g.sum g.goes
      where
        new_one : list_any (is_double x) g.all ≡ false → is_new g.all x ≡ true
        new_one e = rw e refl

        on : (more : ℕ) → Continues (repeat (k + suc more) (each att) []) (from.place + 4) (drop 4 from.bytes.now) (repeat more (each att) (g.all ++ x ∷ [])) after.place after.bytes.now
        on more = continues_on (repeat (k + suc more) (each att) []) (from.place + 4) (drop 4 from.bytes.now) (repeat (suc more) (each att) g.all) rest.place rest.bytes.now (repeat more (each att) (g.all ++ x ∷ [])) after.place after.bytes.now (g.stand (suc more))
            (continues_repeat more (each att) g.all rest.place rest.bytes.now x after.place after.bytes.now p)

        by : (left : ℕ) → left + k ≡ count → (AreDifferent arrivals → Continues (items att) from.place from.bytes.now (repeat left (item att) g.all) rest.place rest.bytes.now) → Scanned att from count (k + 1) arrivals' offsets' object' old now' after
        by zero sum goes = absurd (omega arith)
        by (suc left) sum goes = record {
          all = g.all ++ x ∷ [];
          long = omega (arith, length-append g.all (x ∷ []), g.long);
          left = left;
          sum = omega arith;
          counted = g.counted;
          goes = λ d. continues_on (items att) from.place from.bytes.now (repeat (suc left) (item att) g.all) rest.place rest.bytes.now (repeat left (item att) (g.all ++ x ∷ [])) after.place after.bytes.now (goes (apart d).0)
              (continues_repeat left (item att) g.all rest.place rest.bytes.now x after.place after.bytes.now (such_takes (any_item att) (is_new g.all) DUPLICATE_LIST_PROPERTY rest after x p (new_one (apart d).1)));
          stand = λ more. subst (λ (z : ℕ). Continues (repeat z (each att) []) (from.place + 4) (drop 4 from.bytes.now) (repeat more (each att) (g.all ++ x ∷ [])) after.place after.bytes.now) (omega arith) (on more);
          arrivals_are = a;
          object_is = b;
          passed_are = c;
          each_has_offset = n;
          doubles = f;
        }

    same_props : (x : Item) → prop_in x ≡ None → arrivals ≡ filter_map prop_in (g.all ++ x ∷ [])
    same_props x e = g.arrivals_are ∙ sym (fm-none prop_in g.all x e)

    same_object : (x : Item) → content_in x ≡ None → object ≡ first_of_list (filter_map content_in (g.all ++ x ∷ []))
    same_object x e = g.object_is ∙ ap first_of_list (sym (fm-none content_in g.all x e))

    same_passed : (x : Item) → passed_in x ≡ None → now ≡ old ++ filter_map passed_in (g.all ++ x ∷ [])
    same_passed x e = g.passed_are ∙ ap (λ (z : List (Bool × ℕ × ℕ)). old ++ z) (sym (fm-none passed_in g.all x e))

    pair_there : (p : Prop) → list_any (is_double (kept p)) g.all ≡ list_any (λ q. is_equal (prop_cmp q p)) arrivals
    pair_there p = double_prop g.all p ∙ sym (ap (list_any (λ q. is_equal (prop_cmp q p))) g.arrivals_are)

    kept_double : (p : Prop) (after : Rest) → Takes (any_item att) rest (kept p) after → HasPairOf arrivals p → AreDifferent arrivals → (prop_list att).fails from.place from.bytes.now (DUPLICATE_LIST_PROPERTY, rest.place)
    kept_double p after t (i, q, h, e, same) = scanned_double (kept p) after t (pair_there p ∙ list_any-from_Any (λ q. is_equal (prop_cmp q p)) arrivals (i, q, h, e, is_equal_of (prop_cmp q p) same))

    pub kept_more : (p : Prop) (after : Rest) (arrivals' : List Prop) (offsets' : List ℕ) (object' : Option (ℕ × List ℕ)) (now' : List (Bool × ℕ × ℕ)) → Takes (any_item att) rest (kept p) after
        → arrivals' ≡ arrivals ++ p ∷ [] → offsets' ≡ offsets ++ rest.place ∷ [] → object' ≡ object → now' ≡ now ++ [] → Scanned att from count (k + 1) arrivals' offsets' object' old now' after
    kept_more p after arrivals' offsets' object' now' t e f o n =
        scanned_more (kept p) after arrivals' offsets' object' now' t apart
        (e ∙ ap (λ (z : List Prop). z ++ p ∷ []) g.arrivals_are ∙ sym (filter_map-append prop_in g.all (kept p ∷ [])))
        (o ∙ same_object (kept p) refl)
        (n ∙ append-nil now ∙ same_passed (kept p) refl)
        (omega (arith, ap length e, ap length f, length-append arrivals (p ∷ []), length-append offsets (rest.place ∷ []), g.each_has_offset))
        doubles
      where
        there : list_any (λ q. is_equal (prop_cmp q p)) arrivals ≡ true → HasPairOf arrivals p
        there f = let (i, q, h, e, same) = Any-from_list_any (λ q. is_equal (prop_cmp q p)) arrivals f in (i, q, h, e, equal_of (prop_cmp q p) same)

        none : (HasPairOf arrivals p → ⊥) → (b : Bool) → list_any (λ q. is_equal (prop_cmp q p)) arrivals ≡ b → b ≡ false
        none fresh false f = refl
        none fresh true f = absurd (fresh (there f))

        apart : AreDifferent arrivals' → AreDifferent arrivals × (list_any (is_double (kept p)) g.all ≡ false)
        apart d =
            let h = subst AreDifferent e d in
            (different_front arrivals p h, pair_there p ∙ none (different_last arrivals p h) (list_any (λ q. is_equal (prop_cmp q p)) arrivals) refl)

        doubles : FirstDoubleFails att from arrivals' offsets'
        doubles j d = subst (λ (z : List ℕ). IsDoubleFault att from z j) (sym f) (elim (first_double_push arrivals p j (subst (λ (z : List Prop). IsFirstDouble z j) e d)) [
          | inl earlier ↦ double_fault_more att from offsets (rest.place ∷ []) j (g.doubles j earlier)
          | inr last ↦ record { offset = rest.place; here = slice_get-seam offsets rest.place j (last.0 ∙ sym g.each_has_offset); fault = kept_double p after t last.2 last.1 }
        ])

    pub passed_more : (t place : ℕ) (after : Rest) (arrivals' : List Prop) (offsets' : List ℕ) (object' : Option (ℕ × List ℕ)) (now' : List (Bool × ℕ × ℕ)) → Takes (any_item att) rest (passed t place) after
        → arrivals' ≡ arrivals → offsets' ≡ offsets → object' ≡ object → now' ≡ now ++ (false, t, place) ∷ [] → Scanned att from count (k + 1) arrivals' offsets' object' old now' after
    passed_more t place after arrivals' offsets' object' now' p e f o n =
        scanned_more (passed t place) after arrivals' offsets' object' now' p (λ d. (subst AreDifferent e d, double_passed g.all t place))
        (e ∙ same_props (passed t place) refl)
        (o ∙ same_object (passed t place) refl)
        (n ∙ ap (λ (z : List (Bool × ℕ × ℕ)). z ++ (false, t, place) ∷ []) g.passed_are ∙ append_assoc old (filter_map passed_in g.all) ((false, t, place) ∷ []) ∙ ap (λ (z : List (Bool × ℕ × ℕ)). old ++ z) (sym (filter_map-append passed_in g.all (passed t place ∷ []))))
        (omega (arith, ap length e, ap length f, g.each_has_offset))
        (doubles_kept att from arrivals arrivals' offsets offsets' [] e (f ∙ sym (append-nil offsets)) g.doubles)

    pub carried_double : (place : ℕ) (content : List ℕ) (after : Rest) → Takes (any_item att) rest (carried place content) after → is_some object ≡ true → AreDifferent arrivals → (prop_list att).fails from.place from.bytes.now (DUPLICATE_LIST_PROPERTY, rest.place)
    carried_double place content after t e = scanned_double (carried place content) after t (double_object g.all place content ∙ sym (ap is_some g.object_is) ∙ e)

    pub carried_more : (place : ℕ) (content : List ℕ) (after : Rest) (arrivals' : List Prop) (offsets' : List ℕ) (object' : Option (ℕ × List ℕ)) (now' : List (Bool × ℕ × ℕ)) → Takes (any_item att) rest (carried place content) after
        → arrivals' ≡ arrivals → offsets' ≡ offsets → object ≡ None → object' ≡ Some (place, content) → now' ≡ now ++ [] → Scanned att from count (k + 1) arrivals' offsets' object' old now' after
    carried_more place content after arrivals' offsets' object' now' t e f o o' n =
        scanned_more (carried place content) after arrivals' offsets' object' now' t (λ d. (subst AreDifferent e d, double_object g.all place content ∙ sym (ap is_some g.object_is) ∙ ap is_some o))
        (e ∙ same_props (carried place content) refl)
        (o' ∙ sym (ap first_of_list (filter_map-append content_in g.all (carried place content ∷ [])) ∙ first-push (filter_map content_in g.all) (place, content) (sym g.object_is ∙ o)))
        (n ∙ append-nil now ∙ same_passed (carried place content) refl)
        (omega (arith, ap length e, ap length f, g.each_has_offset))
        (doubles_kept att from arrivals arrivals' offsets offsets' [] e (f ∙ sym (append-nil offsets)) g.doubles)

  scanned_all : k ≡ count → AreDifferent arrivals → Takes (items att) from g.all rest
  scanned_all e d = by g.left g.sum (g.goes d)
    where
      by : (left : ℕ) → left + k ≡ count → Continues (items att) from.place from.bytes.now (repeat left (item att) g.all) rest.place rest.bytes.now → Takes (items att) from g.all rest
      by zero sum goes = goes.ok g.all rest.place rest.bytes.now (spans_repeat (item att) g.all rest.place rest.bytes.now)
      by (suc left) sum goes = absurd (omega arith)

  -- the list is read if its properties are different, and what was passed over stands behind what was passed over before
  pub list_scanned : k ≡ count → (more : List (Bool × ℕ × ℕ)) × (AreDifferent arrivals → Takes (prop_list att) from (record { props = with_elements prop_cmp [] arrivals; object = object; passed = more }) rest) × (now ≡ old ++ more)
  unfolding prop_list
  list_scanned e =
      let more = filter_map passed_in g.all in
      let same : list_of g.all ≡ record { props = with_elements prop_cmp [] arrivals; object = object; passed = more } = sym (λ i. record { props = with_elements prop_cmp [] (g.arrivals_are i); object = g.object_is i; passed = more }) in
      (more, (λ d. subst (λ (z : PropList). Takes (prop_list att) from z rest) same (seen_takes (items att) list_of from rest g.all (scanned_all e d))), g.passed_are)

some_seen : {A B : Type 0} (f : A → B) (o : Option A) → is_some (option_map f o) ≡ is_some o
some_seen f None = refl
some_seen f (Some a) = refl

-- ---- one item more in a draft

-- the same of a draft, whose properties are marked with offsets
pub record Filled {C : Type 0} (att : Bool) (from : Rest) (count k : ℕ) (d : Draft C) (old now : List (Bool × ℕ × ℕ)) (rest : Rest) : Type 0 where
  pub offsets : List ℕ
  pub marks : AreMarksOf d.arrivals offsets
  pub scanned : Scanned att from count k d.arrivals.props offsets (option_map object_of d.object) old now rest

pub filled_none : {C : Type 0} (att : Bool) (from rest : Rest) (count : ℕ) (d : Draft C) (old : List (Bool × ℕ × ℕ)) → IsEmpty d → Takes word from count rest → Filled att from count 0 d old old rest
filled_none att from rest count d old e p = record { offsets = []; marks = e.1; scanned = scanned_none att from rest count d.arrivals.props (option_map object_of d.object) old e.0 (ap (option_map object_of) e.2) p }

pub none_fail : {C : Type 0} (att : Bool) (from : Rest) (d : Draft C) → IsEmpty d → DoublesFail att from d.arrivals
none_fail att from d e = record { offsets = []; marks = e.1; fail = λ k f. absurd (omega (arith, f.in_range, ap length e.0)) }

-- the same properties
pub fail_kept : (att : Bool) (from : Rest) (old new : Came) → new ≡ old → DoublesFail att from old → DoublesFail att from new
fail_kept att from old new e f = subst (DoublesFail att from) (sym e) f

module _ {C : Type 0} (att : Bool) (from : Rest) (count k : ℕ) (d d' : Draft C) (old now now' : List (Bool × ℕ × ℕ)) (rest after : Rest) (f : Filled att from count k d old now rest) where
  pub filled_fail : DoublesFail att from d.arrivals
  filled_fail = record { offsets = f.offsets; marks = f.marks; fail = f.scanned.doubles }

  module _ (lt : k < count) where
    pub item_added : (x : Item) → Takes (any_item att) rest x after → IsWith x rest.place d d' → now' ≡ now ++ filter_map passed_in (x ∷ []) → Filled att from count (k + 1) d' old now' after
    item_added (kept p) t w n = record {
      offsets = f.offsets ++ rest.place ∷ [];
      marks = w.1 f.offsets f.marks;
      scanned = kept_more att from count k d.arrivals.props f.offsets (option_map object_of d.object) old now rest f.scanned lt p after d'.arrivals.props (f.offsets ++ rest.place ∷ []) (option_map object_of d'.object) now' t w.0 refl (ap (option_map object_of) w.2) n;
    }
    item_added (passed tag place) t w n = record {
      offsets = f.offsets;
      marks = subst (λ (c : Came). AreMarksOf c f.offsets) (sym w.0) f.marks;
      scanned = passed_more att from count k d.arrivals.props f.offsets (option_map object_of d.object) old now rest f.scanned lt tag place after d'.arrivals.props f.offsets (option_map object_of d'.object) now' t (ap (λ (c : Came). c.props) w.0) refl (ap (option_map object_of) w.1) n;
    }
    item_added (carried place content) t w n = record {
      offsets = f.offsets;
      marks = subst (λ (c : Came). AreMarksOf c f.offsets) (sym w.0) f.marks;
      scanned = carried_more att from count k d.arrivals.props f.offsets (option_map object_of d.object) old now rest f.scanned lt place content after d'.arrivals.props f.offsets (option_map object_of d'.object) now' t (ap (λ (c : Came). c.props) w.0) refl (ap (option_map object_of) w.1) w.2 n;
    }

    second_fails : (x : Item) → Takes (any_item att) rest x after → IsSecondObject x d → AreDifferent d.arrivals.props → (prop_list att).fails from.place from.bytes.now (DUPLICATE_LIST_PROPERTY, rest.place)
    second_fails (kept p) t w e = absurd w
    second_fails (passed tag place) t w e = absurd w
    second_fails (carried place content) t w e = carried_double att from count k d.arrivals.props f.offsets (option_map object_of d.object) old now rest f.scanned lt place content after t (some_seen object_of d.object ∙ w) e

    pub second_refuses : (x : Item) (s : Stop) → Takes (any_item att) rest x after → OnFault (λ h. (h ≡ (DUPLICATE_LIST_PROPERTY, rest.place)) × IsSecondObject x d) s → AreDifferent d.arrivals.props → Refuses (prop_list att) from s
    second_refuses x s t p e =
        on_fault (λ h. (h ≡ (DUPLICATE_LIST_PROPERTY, rest.place)) × IsSecondObject x d) ((prop_list att).fails from.place from.bytes.now)
        (λ h w. subst (λ (i : ℕ × ℕ). (prop_list att).fails from.place from.bytes.now i) (sym w.0) (second_fails x t w.1 e)) s p

-- the first double of the properties that came is a fault, where its mark says
pub double_fails : (att : Bool) (from : Rest) (c : Came) (mark : ℕ) → DoublesFail att from c → ((offsets : List ℕ) → AreMarksOf c offsets → IsDoubleWith c.props offsets mark) → (prop_list att).fails from.place from.bytes.now (DUPLICATE_LIST_PROPERTY, mark)
double_fails att from c mark f refused = by (refused f.offsets f.marks)
  where
    by : IsDoubleWith c.props f.offsets mark → (prop_list att).fails from.place from.bytes.now (DUPLICATE_LIST_PROPERTY, mark)
    by d =
        let there = f.fail d.place d.first in
        let same : Some there.offset ≡ Some mark = sym there.here ∙ d.here in
        let e : there.offset ≡ mark = cc in
        subst (λ (n : ℕ). (prop_list att).fails from.place from.bytes.now (DUPLICATE_LIST_PROPERTY, n)) e there.fault
