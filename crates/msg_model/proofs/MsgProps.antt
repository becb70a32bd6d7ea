-- A property list of a .msg file is what its entries give.
use Rattle.std.proofs.Common.{◌≡◌, ℕ, List, [], ◌∷◌, ◌++◌, length, true, false, Ok, Option, Some, None, refl, sym, ap, subst, ◌∙◌}
use Rattle.std.specs.Prelude.{filter_map, nat_le}
use Rattle.std.specs.List.{AllByRecursion, IsDistinct, AllZip, list_any}
use Rattle.std.proofs.lemmas.Bool.{leb-true, le-leb, not-true, not_from_false, or_parts, or_from}
use Rattle.std.proofs.lemmas.List.Folds.{list_any-append}
use Rattle.carrier_model.specs.Reasons.{BAD_PROP_STREAM, DUPLICATE_PROPERTY, MISSING_PROPERTIES}
use Rattle.carrier_model.specs.Sorted.{with_elements}
use Rattle.carrier_model.specs.Values.{Prop, prop_cmp}
use Rattle.carrier_model.specs.Lists.{first_of_list}
use Rattle.carrier_model.specs.Turns.{in_turn, found}
use Rattle.carrier_model.proofs.Turns.{AllGive, ok_same, bind_ok, bind_from, check_ok, check_from, found_ok, in_turn-sound, in_turn-only}
use Rattle.msg_model.specs.NameMap.{Pair}
use Rattle.carrier_model.specs.Lookups.{size_place}
use Rattle.carrier_model.specs.Stores.{PROPERTIES}
use Rattle.msg_model.specs.MsgValues.{Streams, PropEntry}
use Rattle.msg_model.specs.MsgProps.{Part, head_size, prop_entries, Item, kept, passed, embedding, item_of, is_double, is_new, next_item, prop_in, embedding_in, Section, section_of, props_of, option_list, MsgProps}
use Rattle.carrier_model.proofs.Orders.{prop_total}
use Rattle.carrier_model.proofs.SortedLists.{same_sorted}
use Rattle.carrier_model.proofs.SortedElements.{equal_by, equal_flips, permuted_distinct, elements_good}

-- ---- no item is a double of an earlier one

double_flips : (x y : Item) → is_double x y ≡ is_double y x
double_flips (kept p) (kept q) = equal_flips prop_total p q
double_flips (kept p) (passed tag place) = refl
double_flips (kept p) (embedding place) = refl
double_flips (passed tag place) (kept q) = refl
double_flips (passed tag place) (passed other others) = refl
double_flips (passed tag place) (embedding other) = refl
double_flips (embedding place) (kept q) = refl
double_flips (embedding place) (passed tag other) = refl
double_flips (embedding place) (embedding other) = refl

abbrev pub AllNew : List Item → List Item → Type 0
AllNew before [] = Unit {0}
AllNew before (x ∷ xs) = (is_new before x ≡ true) × AllNew (before ++ x ∷ []) xs

abbrev pub Clear : List Item → List Item → Type 0
Clear before xs = AllByRecursion (λ y. list_any (is_double y) before ≡ false) xs

clear_split : (before : List Item) (x : Item) (xs : List Item) → Clear (before ++ x ∷ []) xs → Clear before xs × AllByRecursion (λ y. is_double x y ≡ false) xs
clear_split before x [] c = (tt, tt)
clear_split before x (y ∷ ys) c =
    let parts = or_parts _ _ (sym (list_any-append (is_double y) before (x ∷ [])) ∙ c.0) in
    let one = or_parts (is_double y x) false parts.1 in
    let rest = clear_split before x ys c.1 in
    ((parts.0, rest.0), (double_flips x y ∙ one.0, rest.1))

clear_join : (before : List Item) (x : Item) (xs : List Item) → Clear before xs → AllByRecursion (λ y. is_double x y ≡ false) xs → Clear (before ++ x ∷ []) xs
clear_join before x [] c d = tt
clear_join before x (y ∷ ys) c d =
    (list_any-append (is_double y) before (x ∷ []) ∙ or_from _ _ c.0 (or_from (is_double y x) false (double_flips y x ∙ d.0) refl), clear_join before x ys c.1 d.1)

pub new_distinct : (before xs : List Item) → AllNew before xs → IsDistinct is_double xs × Clear before xs
unfolding IsDistinct
new_distinct before [] n = (tt, tt)
new_distinct before (x ∷ xs) n =
    let rest = new_distinct (before ++ x ∷ []) xs n.1 in
    let split = clear_split before x xs rest.1 in
    ((split.1, rest.0), (not-true _ n.0, split.0))

pub distinct_new : (before xs : List Item) → IsDistinct is_double xs → Clear before xs → AllNew before xs
unfolding IsDistinct
distinct_new before [] d c = tt
distinct_new before (x ∷ xs) d c = (not_from_false _ c.0, distinct_new (before ++ x ∷ []) xs d.1 (clear_join before x xs c.1 d.0))

pub nothing_clear : (xs : List Item) → Clear [] xs
nothing_clear [] = tt
nothing_clear (x ∷ xs) = (refl, nothing_clear xs)

-- ---- so no property is, and there is at most one embedded message

props_apart : (p : Prop) (xs : List Item) → AllByRecursion (λ y. is_double (kept p) y ≡ false) xs → AllByRecursion (λ q. equal_by prop_cmp p q ≡ false) (filter_map prop_in xs)
props_apart p [] d = tt
props_apart p (kept q ∷ xs) d = (d.0, props_apart p xs d.1)
props_apart p (passed tag place ∷ xs) d = props_apart p xs d.1
props_apart p (embedding place ∷ xs) d = props_apart p xs d.1

items_apart : (p : Prop) (xs : List Item) → AllByRecursion (λ q. equal_by prop_cmp p q ≡ false) (filter_map prop_in xs) → AllByRecursion (λ y. is_double (kept p) y ≡ false) xs
items_apart p [] d = tt
items_apart p (kept q ∷ xs) d = (d.0, items_apart p xs d.1)
items_apart p (passed tag place ∷ xs) d = (refl, items_apart p xs d)
items_apart p (embedding place ∷ xs) d = (refl, items_apart p xs d)

pub props_distinct : (xs : List Item) → IsDistinct is_double xs → IsDistinct (equal_by prop_cmp) (filter_map prop_in xs)
unfolding IsDistinct
props_distinct [] d = tt
props_distinct (kept p ∷ xs) d = (props_apart p xs d.0, props_distinct xs d.1)
props_distinct (passed tag place ∷ xs) d = props_distinct xs d.1
props_distinct (embedding place ∷ xs) d = props_distinct xs d.1

passed_clear : (tag place : ℕ) (xs : List Item) → AllByRecursion (λ y. is_double (passed tag place) y ≡ false) xs
passed_clear tag place [] = tt
passed_clear tag place (kept q ∷ xs) = (refl, passed_clear tag place xs)
passed_clear tag place (passed other others ∷ xs) = (refl, passed_clear tag place xs)
passed_clear tag place (embedding other ∷ xs) = (refl, passed_clear tag place xs)

-- no embedded message behind one
none_behind : (place : ℕ) (xs : List Item) → AllByRecursion (λ y. is_double (embedding place) y ≡ false) xs → filter_map embedding_in xs ≡ []
none_behind place [] d = refl
none_behind place (kept q ∷ xs) d = none_behind place xs d.1
none_behind place (passed other others ∷ xs) d = none_behind place xs d.1
none_behind place (embedding other ∷ xs) d = absurd (let h : true ≡ false = d.0 in cc)

behind_none : (place : ℕ) (xs : List Item) → filter_map embedding_in xs ≡ [] → AllByRecursion (λ y. is_double (embedding place) y ≡ false) xs
behind_none place [] e = tt
behind_none place (kept q ∷ xs) e = (refl, behind_none place xs e)
behind_none place (passed other others ∷ xs) e = (refl, behind_none place xs e)
behind_none place (embedding other ∷ xs) e = absurd cc

embedded_once : (xs : List Item) → IsDistinct is_double xs → filter_map embedding_in xs ≡ option_list (first_of_list (filter_map embedding_in xs))
unfolding IsDistinct
embedded_once [] d = refl
embedded_once (kept p ∷ xs) d = embedded_once xs d.1
embedded_once (passed tag place ∷ xs) d = embedded_once xs d.1
embedded_once (embedding place ∷ xs) d = ap (λ (l : List ℕ). place ∷ l) (none_behind place xs d.0)

items_distinct : (xs : List Item) (o : Option ℕ) → IsDistinct (equal_by prop_cmp) (filter_map prop_in xs) → filter_map embedding_in xs ≡ option_list o → IsDistinct is_double xs
unfolding IsDistinct
items_distinct [] o d e = tt
items_distinct (kept p ∷ xs) o d e = (items_apart p xs d.0, items_distinct xs o d.1 e)
items_distinct (passed tag place ∷ xs) o d e = (passed_clear tag place xs, items_distinct xs o d e)
items_distinct (embedding place ∷ xs) None d e = absurd cc
items_distinct (embedding place ∷ xs) (Some other) d e = let rest : filter_map embedding_in xs ≡ [] = cc in (behind_none place xs rest, items_distinct xs None d rest)

-- ---- lists

module _ (part : Part) (pairs : List Pair) (streams : Streams) where
  next_item-sound : (before : List Item) (e : PropEntry) (x : Item) → next_item part pairs streams before e ≡ Ok x → (item_of part pairs streams e ≡ Ok x) × (is_new before x ≡ true)
  unfolding next_item
  next_item-sound before e x h =
      let (y, there, rest) = bind_ok (item_of part pairs streams e) _ x h in
      let a = check_ok (is_new before y) DUPLICATE_PROPERTY e.place _ x rest in
      let same : x ≡ y = ok_same (Ok _) y x refl a.1 in
      (there ∙ ap Ok (sym same), subst (λ (z : Item). is_new before z ≡ true) (sym same) a.0)

  next_item-only : (before : List Item) (e : PropEntry) (x : Item) → item_of part pairs streams e ≡ Ok x → is_new before x ≡ true → next_item part pairs streams before e ≡ Ok x
  unfolding next_item
  next_item-only before e x there new = bind_from (item_of part pairs streams e) _ x there ∙ check_from (is_new before x) DUPLICATE_PROPERTY e.place _ new

  pub items-sound : (before : List Item) (es : List PropEntry) (xs : List Item) → AllGive (next_item part pairs streams) before es xs → AllZip (λ e x. item_of part pairs streams e ≡ Ok x) es xs × AllNew before xs
  items-sound before [] [] h = (tt, tt)
  items-sound before [] (x ∷ xs) h = absurd h
  items-sound before (e ∷ es) [] h = absurd h
  items-sound before (e ∷ es) (x ∷ xs) h =
      let one = next_item-sound before e x h.0 in
      let rest = items-sound (before ++ x ∷ []) es xs h.1 in
      ((one.0, rest.0), (one.1, rest.1))

  items-only : (before : List Item) (es : List PropEntry) (xs : List Item) → AllZip (λ e x. item_of part pairs streams e ≡ Ok x) es xs → AllNew before xs → AllGive (next_item part pairs streams) before es xs
  items-only before [] [] h n = tt
  items-only before [] (x ∷ xs) h n = absurd h
  items-only before (e ∷ es) [] h n = absurd h
  items-only before (e ∷ es) (x ∷ xs) h n = (next_item-only before e x h.0 n.0, items-only (before ++ x ∷ []) es xs h.1 n.1)

  pub props_of-sound : (place : ℕ) (l : Section) → props_of part pairs place streams ≡ Ok l → MsgProps part pairs streams l
  unfolding props_of
  props_of-sound place l h =
      let (f, is_there, a) = bind_ok (found (streams PROPERTIES) (MISSING_PROPERTIES, place)) _ l h in
      let b = check_ok (nat_le (head_size part) (length f.stream.bytes)) BAD_PROP_STREAM (size_place f) _ l a in
      let (out, read, is) = bind_ok (in_turn (next_item part pairs streams) [] (prop_entries part f.stream)) _ l b.1 in
      let (items, same, all) = in_turn-sound (next_item part pairs streams) [] (prop_entries part f.stream) out read in
      let (each, new) = items-sound [] (prop_entries part f.stream) items all in
      let distinct = (new_distinct [] items new).0 in
      let good = elements_good prop_total (filter_map prop_in items) (props_distinct items distinct) in
      let whole : l ≡ section_of items = ok_same (Ok _) (section_of out) l refl is ∙ ap section_of same in
      subst (MsgProps part pairs streams) (sym whole) (record {
        f = f;
        there = found_ok (streams PROPERTIES) (MISSING_PROPERTIES, place) f is_there;
        headed = leb-true _ _ b.0;
        items = items;
        each = each;
        once = good.1;
        sorted = good.0;
        embedding = embedded_once items distinct;
        passed = refl;
      })

  first_of_option : (o : Option ℕ) → first_of_list (option_list o) ≡ o
  first_of_option None = refl
  first_of_option (Some x) = refl

  pub props_of-only : (place : ℕ) (l : Section) → MsgProps part pairs streams l → props_of part pairs place streams ≡ Ok l
  unfolding props_of
  props_of-only place l h =
      let items = h.items in
      let distinct : IsDistinct is_double items = items_distinct items l.embedded (permuted_distinct prop_total (filter_map prop_in items) l.props h.once h.sorted) h.embedding in
      let all = items-only [] (prop_entries part h.f.stream) items h.each (distinct_new [] items distinct (nothing_clear items)) in
      let good = elements_good prop_total (filter_map prop_in items) (props_distinct items distinct) in
      let props : with_elements prop_cmp [] (filter_map prop_in items) ≡ l.props = sym (same_sorted prop_total (filter_map prop_in items) (with_elements prop_cmp [] (filter_map prop_in items)) l.props good.1 h.once good.0 h.sorted) in
      let inner : first_of_list (filter_map embedding_in items) ≡ l.embedded = ap first_of_list h.embedding ∙ first_of_option l.embedded in
      let whole : section_of items ≡ l = λ i. record { props = props i; embedded = inner i; passed = sym h.passed i } in
      bind_from (found (streams PROPERTIES) (MISSING_PROPERTIES, place)) _ h.f (ap (λ o. found o (MISSING_PROPERTIES, place)) h.there)
      ∙ (check_from (nat_le (head_size part) (length h.f.stream.bytes)) BAD_PROP_STREAM (size_place h.f) _ (le-leb _ _ h.headed)
      ∙ (bind_from (in_turn (next_item part pairs streams) [] (prop_entries part h.f.stream)) _ items (in_turn-only (next_item part pairs streams) [] (prop_entries part h.f.stream) items all)
      ∙ ap Ok whole))
