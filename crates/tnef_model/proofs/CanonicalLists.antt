-- What is written for a property list spells that list.
use Rattle.std.proofs.Common.{◌≡◌, ℕ, suc, ◌+◌, ◌*◌, ◌/◌, ◌<◌, ◌≤◌, ◌^◌, ◌%◌, Bool, true, false, cond, List, [], ◌∷◌, ◌++◌, length, map, replicate, refl, sym, ap, subst, ◌∙◌, append_assoc, arith}
use Rattle.std.specs.List.{position_from, list_any, AllByRecursion}
use Rattle.std.specs.Prelude.{nat_le, nat_lt, ◌==◌, ◌||◌, All, Option, Some, None, unwrap_or, filter, filter_map, not}
use Rattle.std.proofs.lemmas.List.{append-nil, length-append, length-replicate}
use Rattle.std.proofs.lemmas.Bool.{le-leb, lt-ltb, eq-eqb, ltb-true}
use Rattle.carrier_model.specs.Bytes.{le16, le32, le_number, pad4, units_of, unit_bytes}
use Rattle.carrier_model.specs.Grammar.{gives, and_then, such, placed, choice, repeat}
use Rattle.carrier_model.specs.Reasons.{BAD_NAME_KIND, BAD_NAME_SIZE}
use Rattle.carrier_model.specs.Keys.{Name, numbered, texted, Key, id, named, IsName, IsKey, name_cmp, key_cmp, id_of}
use Rattle.carrier_model.specs.Values.{Prop, kind_of, IsProp, prop_cmp, with_pair}
use Rattle.carrier_model.specs.Sorted.{IsStrictlySorted, choose, with_element, with_elements}
use Rattle.carrier_model.specs.Trees.{HasUnits, KeyHasUnits, IsPropList}
use Rattle.tnef_model.specs.TnefLists.{raw, word, name_size, name_units, name_text, name_number, name, key, value, sized, one, Item, kept, passed, carried, tag, object, property, described, is_double, any_item, item, items, prop_in, passed_in, content_in, PropList, list_of, prop_list}
use Rattle.carrier_model.specs.Kinds.{without_null, is_kind, OBJECT, ATTACHED_OBJECT, comes_before_object}
use Rattle.carrier_model.specs.Lists.{first_of_list}
use Rattle.tnef_model.specs.TnefCanonical.{with_size, value_bytes, name_bytes, tag_bytes, key_bytes, prop_bytes, props_bytes, object_bytes, list_bytes}
use Rattle.tnef_model.proofs.CanonicalValues.{then_spells, seen_spells, first_spells, other_spells, word_spells, sized_spells}
use Rattle.carrier_model.proofs.KindLaws.{without_its_null, IsListKind, list_kind}
use Rattle.std.specs.Ordering.{ordering_then, nat_cmp}
use Rattle.std.specs.declared.cmp.Ordering.{Ordering}
use Rattle.std.proofs.lemmas.List.Elements.{filter_map-append}
use Rattle.std.specs.declared.cmp.Ordering.TheVariants.{Less, Equal, Greater}
use Rattle.std.proofs.lemmas.List.Folds.{list_any-append}
use Rattle.carrier_model.proofs.Orders.{prop_total}
use Rattle.carrier_model.proofs.SortedLists.{tail_sorted}
use Rattle.tnef_model.proofs.CanonicalKinds.{value_spells, one_spells}
use Rattle.carrier_model.proofs.TreeParts.{IsListed}
use Rattle.carrier_model.proofs.Units.{length-units, units_again}

-- ---- names

nulled_units : (units : List ℕ) → unit_bytes (units ++ 0 ∷ []) ≡ unit_bytes units ++ replicate 2 0
nulled_units [] = refl
nulled_units (u ∷ units) = ap (λ (z : List ℕ). le16 u ++ z) (nulled_units units)

name_units_spell : (at : ℕ) (units : List ℕ) → length units ≤ 255 → All (λ unit. unit < 2 ^ 16) units → let x = unit_bytes (units ++ 0 ∷ []) in name_units.spells at (length x, units) (le32 (length x) ++ x)
unfolding name_units name_size
name_units_spell at units few h =
    let x = unit_bytes (units ++ 0 ∷ []) in
    let len : length x ≡ 2 * length units + 2 = ap length (nulled_units units) ∙ (length-append (unit_bytes units) (replicate 2 0) ∙ (let l = length-units units in omega arith)) in
    let lt : length x < 2 ^ 32 = omega (arith, len) in
    let even : (length x % 2 == 0) ≡ true = eq-eqb (length x % 2) 0 (omega (arith, len)) in
    let short : nat_le (length x) 512 ≡ true = le-leb (length x) 512 (omega (arith, len)) in
    let again : units_of (without_null 2 x) ≡ units = ap (λ z. units_of (without_null 2 z)) (nulled_units units) ∙ (ap units_of (without_its_null 2 (unit_bytes units)) ∙ units_again units h) in
    subst (λ u. name_units.spells at (length x, u) (le32 (length x) ++ x)) again
    (then_spells name_size (λ n. and_then (raw n) (λ y. gives (n, units_of (without_null 2 y)))) at (length x) (length x, units_of (without_null 2 x)) (le32 (length x)) x (word_spells at (length x) lt, rw (even, short) refl)
    (seen_spells (raw (length x)) (λ y. (length x, units_of (without_null 2 y))) (at + 4) x x (refl, refl)))

name_text_spells : (at : ℕ) (set units : List ℕ) → length units ≤ 255 → All (λ unit. unit < 2 ^ 16) units → (name_text set).spells at (texted set units) (with_size (unit_bytes (units ++ 0 ∷ [])))
unfolding name_text
name_text_spells at set units few h =
    let x = unit_bytes (units ++ 0 ∷ []) in
    let padding = replicate (pad4 (length x)) 0 in
    subst (λ z. (name_text set).spells at (texted set units) z) (append_assoc (le32 (length x)) x padding)
    (then_spells (such name_units (λ t. nat_le (length t.1) 255) BAD_NAME_SIZE) (λ t. and_then (raw (pad4 t.0)) (λ y. gives (texted set t.1))) at (length x, units) (texted set units) (le32 (length x) ++ x) padding
    (name_units_spell at units few h, le-leb (length units) 255 few)
    (seen_spells (raw (pad4 (length x))) (λ y. texted set units) (at + length (le32 (length x) ++ x)) padding padding (refl, length-replicate (pad4 (length x)) 0)))

name_spells : (at : ℕ) (x : Name) → IsName x → HasUnits x → name.spells at x (name_bytes x)
unfolding name name_number
name_spells at (numbered set n) h u =
    then_spells (raw 16) (λ s. and_then (such word (λ kind. nat_le kind 1) BAD_NAME_KIND) (λ kind. choice (kind == 0) (name_number s) (name_text s))) at set (numbered set n) set (le32 0 ++ le32 n) (refl, h.0)
    (then_spells (such word (λ kind. nat_le kind 1) BAD_NAME_KIND) (λ kind. choice (kind == 0) (name_number set) (name_text set)) (at + length set) 0 (numbered set n) (le32 0) (le32 n) (word_spells (at + length set) 0 (omega arith), refl)
    (seen_spells word (λ k. numbered set k) (at + length set + 4) n (le32 n) (word_spells (at + length set + 4) n h.1)))
name_spells at (texted set units) h u =
    then_spells (raw 16) (λ s. and_then (such word (λ kind. nat_le kind 1) BAD_NAME_KIND) (λ kind. choice (kind == 0) (name_number s) (name_text s))) at set (texted set units) set (le32 1 ++ with_size (unit_bytes (units ++ 0 ∷ []))) (refl, h.0)
    (then_spells (such word (λ kind. nat_le kind 1) BAD_NAME_KIND) (λ kind. choice (kind == 0) (name_number set) (name_text set)) (at + length set) 1 (texted set units) (le32 1) (with_size (unit_bytes (units ++ 0 ∷ []))) (word_spells (at + length set) 1 (omega arith), refl)
    (name_text_spells (at + length set + 4) set units h.1 u))

-- ---- keys and tags

position_below : {A : Type 0} (t : A → Bool) (i bound : ℕ) (l : List A) → i + length l ≤ bound → 0 < bound → unwrap_or (position_from t i l) 0 < bound
position_below t i bound [] le some = some
position_below t i bound (x ∷ l) le some = by (position_below t (i + 1) bound l (omega arith) some) (t x)
  where
    by : unwrap_or (position_from t (i + 1) l) 0 < bound → (b : Bool) → unwrap_or (cond b (Some i) (position_from t (i + 1) l)) 0 < bound
    by later true = omega arith
    by later false = later

-- the id in a tag, and what stands behind the tag
abbrev key_id : List Name → Key → ℕ
key_id names (id n) = n
key_id names (named x) = id_of names x

abbrev key_text : Key → List ℕ
key_text (id n) = []
key_text (named x) = name_bytes x

key_parts : (names : List Name) (k : Key) (kind : ℕ) → key_bytes names k kind ≡ tag_bytes (key_id names k) kind ++ key_text k
key_parts names (id n) kind = sym (append-nil (tag_bytes n kind))
key_parts names (named x) kind = refl

key_short : (names : List Name) (k : Key) → IsKey k → length names ≤ 0x8000 → key_id names k < 0x10000
key_short names (id n) h few = let lt : n < 0x8000 = h in omega arith
key_short names (named x) h few = let lt = position_below (λ other. choose (name_cmp other x) false true false) 0 0x8000 names (omega arith) (omega arith) in omega (arith, lt)

not_below : (n : ℕ) → nat_lt (0x8000 + n) 0x8000 ≡ false
not_below n = not_true (nat_lt (0x8000 + n) 0x8000) (λ e. let lt : 0x8000 + n < 0x8000 = ltb-true (0x8000 + n) 0x8000 e in omega arith)
  where
    not_true : (b : Bool) → (b ≡ true → ⊥) → b ≡ false
    not_true true h = absurd (h refl)
    not_true false h = refl

key_spells : (names : List Name) (at : ℕ) (k : Key) → IsKey k → KeyHasUnits k → (key (key_id names k)).spells at k (key_text k)
unfolding key
key_spells names at (id n) h u = first_spells (nat_lt n 0x8000) (gives (id n)) (and_then name (λ x. gives (named x))) at (id n) [] (lt-ltb n 0x8000 h) (refl, refl)
key_spells names at (named x) h u = other_spells (nat_lt (id_of names x) 0x8000) (gives (id (id_of names x))) (and_then name (λ y. gives (named y))) at (named x) (name_bytes x) (not_below _)
    (seen_spells name (λ y. named y) at x (name_bytes x) (name_spells at x h u))

abbrev tag_number : ℕ → ℕ → ℕ
tag_number n kind = kind + 0x10000 * n

tag_again : (n kind : ℕ) → n < 0x10000 → kind < 0x10000 → le_number (tag_bytes n kind) ≡ tag_number n kind
tag_again n kind p q = omega arith

tag_kind : (n kind : ℕ) → kind < 0x10000 → tag_number n kind % 0x10000 ≡ kind
tag_kind n kind q = omega arith

tag_id : (n kind : ℕ) → kind < 0x10000 → tag_number n kind / 0x10000 ≡ n
tag_id n kind q = omega arith

tag_spells : (at n kind : ℕ) → n < 0x10000 → kind < 0x10000 → ((kind == OBJECT) || is_kind kind) ≡ true → tag.spells at (tag_number n kind) (tag_bytes n kind)
unfolding tag
tag_spells at n kind p q known =
    let spelled : word.spells at (tag_number n kind) (tag_bytes n kind) = subst (λ k. word.spells at k (tag_bytes n kind)) (tag_again n kind p q) (seen_spells (raw 4) le_number at (tag_bytes n kind) (tag_bytes n kind) (refl, refl)) in
    (spelled, ap (λ k. (k == OBJECT) || is_kind k) (tag_kind n kind q) ∙ known)

-- ---- a property

property_spells : (names : List Name) (at : ℕ) (p : Prop) → IsListed p → (property (key_id names p.key) (kind_of p.value)).spells at p (key_text p.key ++ value_bytes p.value)
unfolding property
property_spells names at p h =
    then_spells (key (key_id names p.key)) (λ k. and_then (value (kind_of p.value)) (λ v. gives (record { key = k; value = v }))) at p.key p (key_text p.key) (value_bytes p.value) (key_spells names at p.key h.good.key h.units)
    (seen_spells (value (kind_of p.value)) (λ v. record { key = p.key; value = v }) (at + length (key_text p.key)) p.value (value_bytes p.value) (value_spells (at + length (key_text p.key)) p.value h.good.value))

described_spells : (in_attachment : Bool) (place at n kind : ℕ) (p : Prop) (s : List ℕ) → kind < 0x10000 → (kind == OBJECT) ≡ false → (property n kind).spells at p s → (described in_attachment place (tag_number n kind)).spells at (kept p) s
unfolding described
described_spells in_attachment place at n kind p s short other h =
    let t = tag_number n kind in
    other_spells (t % 0x10000 == OBJECT) (and_then (key (t / 0x10000)) (λ k. object in_attachment place t)) (and_then (property (t / 0x10000) (t % 0x10000)) (λ q. gives (kept q))) at (kept p) s (ap (λ k. k == OBJECT) (tag_kind n kind short) ∙ other)
    (seen_spells (property (t / 0x10000) (t % 0x10000)) (λ q. kept q) at p s (subst (λ k. (property (t / 0x10000) k).spells at p s) (sym (tag_kind n kind short)) (subst (λ k. (property k kind).spells at p s) (sym (tag_id n kind short)) h)))

known_kind : (kind : ℕ) → IsListKind kind → ((kind == OBJECT) || is_kind kind) ≡ true
known_kind kind h = rw (h.no_object, h.known) refl

any_spells : (in_attachment : Bool) (names : List Name) (at : ℕ) (p : Prop) → length names ≤ 0x8000 → IsListed p → (any_item in_attachment).spells at (kept p) (prop_bytes names p)
unfolding any_item
any_spells in_attachment names at p few h =
    let n = key_id names p.key in
    let kind = kind_of p.value in
    let l = list_kind p.value h.good.value in
    let short : n < 0x10000 = key_short names p.key h.good.key few in
    let regrouped : tag_bytes n kind ++ (key_text p.key ++ value_bytes p.value) ≡ prop_bytes names p = sym (ap (λ (z : List ℕ). z ++ value_bytes p.value) (key_parts names p.key kind) ∙ append_assoc (tag_bytes n kind) (key_text p.key) (value_bytes p.value)) in
    subst (λ z. (any_item in_attachment).spells at (kept p) z) regrouped
    (then_spells (placed tag) (λ t. described in_attachment t.0 t.1) at (at, tag_number n kind) (kept p) (tag_bytes n kind) (key_text p.key ++ value_bytes p.value) (refl, tag_spells at n kind short l.short (known_kind kind l))
    (described_spells in_attachment at (at + 4) n kind p (key_text p.key ++ value_bytes p.value) l.short l.no_object (property_spells names (at + 4) p h)))

-- the Object of an attachment
object_spells : (at : ℕ) (x : List ℕ) → 16 ≤ length x → length x < 2 ^ 32 → (place : ℕ) × (any_item true).spells at (carried place x) (object_bytes x)
unfolding any_item described key object
object_spells at x long short = (
  _,
  then_spells (placed tag) (λ t. described true t.0 t.1) at (at, ATTACHED_OBJECT) (carried _ x) (tag_bytes 0x3701 OBJECT) (le32 1 ++ with_size x) (refl, tag_spells at 0x3701 OBJECT (omega arith) (omega arith) refl)
      (then_spells (key 0x3701) (λ k. object true at ATTACHED_OBJECT) (at + 4) (id 0x3701) (carried _ x) [] (le32 1 ++ with_size x) (refl, refl)
      (then_spells one (λ n. choice true (and_then (sized false 16) (λ y. gives (carried y.0 y.1))) (and_then (sized false 0) (λ y. gives (passed ATTACHED_OBJECT at)))) (at + 4 + 0) 1 (carried _ x) (le32 1) (with_size x) (one_spells (at + 4 + 0))
      (seen_spells (sized false 16) (λ y. carried y.0 y.1) (at + 4 + 0 + 4) (at + 4 + 0 + 4 + 4, x) (with_size x) (sized_spells false 16 (at + 4 + 0 + 4) x short (le-leb 16 (length x) long))))),
)

-- ---- lists that rise

pub each_of : {A : Type 0} (P : A → Type 0) (xs : List A) → All P xs → AllByRecursion P xs
each_of P [] h = tt
each_of P (x ∷ xs) h = (h 0 x (omega arith), each_of P xs (λ k d lt. h (suc k) d (omega arith)))

each_front : {A : Type 0} (P : A → Type 0) (xs ys : List A) → AllByRecursion P (xs ++ ys) → AllByRecursion P xs
each_front P [] ys h = tt
each_front P (x ∷ xs) ys h = (h.0, each_front P xs ys h.1)

each_back : {A : Type 0} (P : A → Type 0) (xs ys : List A) → AllByRecursion P (xs ++ ys) → AllByRecursion P ys
each_back P [] ys h = h
each_back P (x ∷ xs) ys h = each_back P xs ys h.1

pub each_push : {A : Type 0} (P : A → Type 0) (xs : List A) (y : A) → AllByRecursion P xs → P y → AllByRecursion P (xs ++ y ∷ [])
each_push P [] y h g = (g, tt)
each_push P (x ∷ xs) y h g = (h.0, each_push P xs y h.1 g)

abbrev pub Above : Prop → List Prop → Type 0
Above p ps = AllByRecursion (λ q. prop_cmp p q ≡ Less) ps

abbrev pub Rising : List Prop → Type 0
Rising [] = Unit {0}
Rising (p ∷ ps) = Above p ps × Rising ps

pub rising : (ps : List Prop) → IsStrictlySorted prop_cmp ps → Rising ps
rising [] h = tt
rising (p ∷ ps) h = (each_of (λ q. prop_cmp p q ≡ Less) ps (λ k d lt. h 0 (suc k) d (omega arith) (omega arith)), rising ps (tail_sorted prop_total p ps h))

rising_front : (ps qs : List Prop) → Rising (ps ++ qs) → Rising ps
rising_front [] qs h = tt
rising_front (p ∷ ps) qs h = (each_front (λ q. prop_cmp p q ≡ Less) ps qs h.0, rising_front ps qs h.1)

rising_back : (ps qs : List Prop) → Rising (ps ++ qs) → Rising qs
rising_back [] qs h = h
rising_back (p ∷ ps) qs h = rising_back ps qs h.1

-- each of some is below each of others
abbrev Later : List Prop → List Prop → Type 0
Later ps [] = Unit {0}
Later ps (q ∷ qs) = AllByRecursion (λ p. prop_cmp p q ≡ Less) ps × Later ps qs

later_none : (qs : List Prop) → Later [] qs
later_none [] = tt
later_none (q ∷ qs) = (tt, later_none qs)

later_push : (ps : List Prop) (q : Prop) (qs : List Prop) → Later ps qs → Above q qs → Later (ps ++ q ∷ []) qs
later_push ps q [] h g = tt
later_push ps q (r ∷ qs) h g = (each_push (λ p. prop_cmp p r ≡ Less) ps q h.0 g.0, later_push ps q qs h.1 g.1)

-- such a list is sorted as it stands
at_end : (ps : List Prop) (q : Prop) → AllByRecursion (λ p. prop_cmp p q ≡ Less) ps → with_element prop_cmp ps q ≡ ps ++ q ∷ []
at_end [] q h = refl
at_end (p ∷ ps) q h = let rest : with_element prop_cmp ps q ≡ ps ++ q ∷ [] = at_end ps q h.1 in rw h.0 (ap (λ (l : List Prop). p ∷ l) rest)

all_at_end : (ps qs : List Prop) → Later ps qs → Rising qs → with_elements prop_cmp ps qs ≡ ps ++ qs
all_at_end ps [] h g = sym (append-nil ps)
all_at_end ps (q ∷ qs) h g = ap (λ (l : List Prop). with_elements prop_cmp l qs) (at_end ps q h.0) ∙ (all_at_end (ps ++ q ∷ []) qs (later_push ps q qs h.1 g.0) g.1 ∙ append_assoc ps (q ∷ []) qs)

sorted_again : (ps : List Prop) → Rising ps → with_elements prop_cmp [] ps ≡ ps
sorted_again ps h = all_at_end [] ps (later_none ps) h

-- ---- no property comes twice

abbrev AllNew : List Item → List Prop → Type 0
AllNew before [] = Unit {0}
AllNew before (p ∷ ps) = (list_any (is_double (kept p)) before ≡ false) × AllNew before ps

none_before : (ps : List Prop) → AllNew [] ps
none_before [] = tt
none_before (p ∷ ps) = (refl, none_before ps)

any_push : (t : Item → Bool) (before : List Item) (x : Item) → list_any t before ≡ false → t x ≡ false → list_any t (before ++ x ∷ []) ≡ false
any_push t before x h g = list_any-append t before (x ∷ []) ∙ rw (h, g) refl

new_after : (before : List Item) (q : Prop) (ps : List Prop) → AllNew before ps → Above q ps → AllNew (before ++ kept q ∷ []) ps
new_after before q [] h g = tt
new_after before q (p ∷ ps) h g = (any_push (is_double (kept p)) before (kept q) h.0 (rw g.0 refl), new_after before q ps h.1 g.1)

new_after_object : (before : List Item) (place : ℕ) (x : List ℕ) (ps : List Prop) → AllNew before ps → AllNew (before ++ carried place x ∷ []) ps
new_after_object before place x [] h = tt
new_after_object before place x (p ∷ ps) h = (any_push (is_double (kept p)) before (carried place x) h.0 refl, new_after_object before place x ps h.1)

new_front : (before : List Item) (ps qs : List Prop) → AllNew before (ps ++ qs) → AllNew before ps
new_front before [] qs h = tt
new_front before (p ∷ ps) qs h = (h.0, new_front before ps qs h.1)

new_behind : (before : List Item) (ps qs : List Prop) → AllNew before (ps ++ qs) → Rising (ps ++ qs) → AllNew (before ++ map kept ps) qs
new_behind before [] qs h g = subst (λ l. AllNew l qs) (sym (append-nil before)) h
new_behind before (p ∷ ps) qs h g = subst (λ l. AllNew l qs) (append_assoc before (kept p ∷ []) (map kept ps)) (new_behind (before ++ kept p ∷ []) ps qs (new_after before p (ps ++ qs) h.1 g.0) g.1)

object_new : (place : ℕ) (x : List ℕ) (ps : List Prop) → list_any (is_double (carried place x)) (map kept ps) ≡ false
object_new place x [] = refl
object_new place x (p ∷ ps) = object_new place x ps

item_spells : (in_attachment : Bool) (before : List Item) (at : ℕ) (x : Item) (s : List ℕ) → list_any (is_double x) before ≡ false → (any_item in_attachment).spells at x s → (item in_attachment before).spells at x s
unfolding item
item_spells in_attachment before at x s new h = (h, ap not new)

repeat_more : (in_attachment : Bool) (before : List Item) (n at : ℕ) (x : Item) (y : List Item) (s t : List ℕ) → (item in_attachment before).spells at x s → (repeat n (item in_attachment) (before ++ x ∷ [])).spells (at + length s) y t → (repeat (suc n) (item in_attachment) before).spells at y (s ++ t)
unfolding repeat
repeat_more in_attachment before n at x y s t p q = then_spells (item in_attachment before) (λ z. repeat n (item in_attachment) (before ++ z ∷ [])) at x y s t p q

-- so many more
abbrev more : List Prop → ℕ → ℕ
more [] m = m
more (p ∷ ps) m = suc (more ps m)

more_length : (ps : List Prop) (m : ℕ) → more ps m ≡ length ps + m
more_length [] m = omega arith
more_length (p ∷ ps) m = let h = more_length ps m in omega (arith, h)

-- properties, and then what comes behind them
props_then : (in_attachment : Bool) (names : List Name) (few : length names ≤ 0x8000) (ps : List Prop) (before : List Item) (m : ℕ) (y : List Item) (t : List ℕ) (at : ℕ) → AllByRecursion IsListed ps → Rising ps → AllNew before ps
    → (repeat m (item in_attachment) (before ++ map kept ps)).spells (at + length (props_bytes names ps)) y t → (repeat (more ps m) (item in_attachment) before).spells at y (props_bytes names ps ++ t)
props_then in_attachment names few [] before m y t at each r new h =
    let place : at + 0 ≡ at = omega arith in
    subst (λ k. (repeat m (item in_attachment) before).spells k y t) place (subst (λ l. (repeat m (item in_attachment) l).spells (at + 0) y t) (append-nil before) h)
props_then in_attachment names few (p ∷ ps) before m y t at each r new h =
    let s = prop_bytes names p in
    let u = props_bytes names ps in
    let place : at + length (s ++ u) ≡ at + length s + length u = omega (arith, length-append s u) in
    let moved : (repeat m (item in_attachment) ((before ++ kept p ∷ []) ++ map kept ps)).spells (at + length s + length u) y t =
    subst (λ k. (repeat m (item in_attachment) ((before ++ kept p ∷ []) ++ map kept ps)).spells k y t) place (subst (λ l. (repeat m (item in_attachment) l).spells (at + length (s ++ u)) y t) (sym (append_assoc before (kept p ∷ []) (map kept ps))) h) in
    let others = props_then in_attachment names few ps (before ++ kept p ∷ []) m y t (at + length s) each.1 r.1 (new_after before p ps new.1 r.0) moved in
    subst (λ z. (repeat (suc (more ps m)) (item in_attachment) before).spells at y z) (sym (append_assoc s u t))
    (repeat_more in_attachment before (more ps m) at (kept p) y s (u ++ t) (item_spells in_attachment before at (kept p) s new.0 (any_spells in_attachment names at p few each.0)) others)

-- ---- a list without an Object

props_kept : (ps : List Prop) → filter_map prop_in (map kept ps) ≡ ps
props_kept [] = refl
props_kept (p ∷ ps) = ap (λ (l : List Prop). p ∷ l) (props_kept ps)

passed_none : (ps : List Prop) → filter_map passed_in (map kept ps) ≡ []
passed_none [] = refl
passed_none (p ∷ ps) = passed_none ps

content_none : (ps : List Prop) → filter_map content_in (map kept ps) ≡ []
content_none [] = refl
content_none (p ∷ ps) = content_none ps

abbrev pub with_object : List Prop → Option (ℕ × List ℕ) → PropList
with_object props object = record { props = props; object = object; passed = [] }

same_list : (ps qs : List Prop) (o u : Option (ℕ × List ℕ)) (l m : List (Bool × ℕ × ℕ)) → ps ≡ qs → o ≡ u → l ≡ m → (let a : PropList = record { props = ps; object = o; passed = l } in a) ≡ record { props = qs; object = u; passed = m }
same_list ps qs o u l m e f g = λ i. record { props = e i; object = f i; passed = g i }

plain_list : (ps : List Prop) → Rising ps → list_of (map kept ps) ≡ with_object ps None
plain_list ps r = same_list _ ps _ None _ [] (ap (with_elements prop_cmp []) (props_kept ps) ∙ sorted_again ps r) (ap first_of_list (content_none ps)) (passed_none ps)

length-prop : (names : List Name) (p : Prop) → 4 ≤ length (prop_bytes names p)
length-prop names p = by p.key
  where
    by : (k : Key) → 4 ≤ length (key_bytes names k (kind_of p.value) ++ value_bytes p.value)
    by (id n) = omega arith
    by (named x) = omega arith

length-props : (names : List Name) (ps : List Prop) → length ps ≤ length (props_bytes names ps)
length-props names [] = omega arith
length-props names (p ∷ ps) = omega (arith, length-prop names p, length-props names ps, length-append (prop_bytes names p) (props_bytes names ps))

pub each_listed : (ps : List Prop) → All IsProp ps → All (λ p. KeyHasUnits p.key) ps → AllByRecursion IsListed ps
each_listed [] h g = tt
each_listed (p ∷ ps) h g = (record { good = h 0 p (omega arith); units = g 0 p (omega arith) }, each_listed ps (λ k d lt. h (suc k) d (omega arith)) (λ k d lt. g (suc k) d (omega arith)))

items_spell : (in_attachment : Bool) (at n : ℕ) (y : List Item) (t : List ℕ) → n < 2 ^ 32 → (repeat n (item in_attachment) []).spells (at + 4) y t → (items in_attachment).spells at y (le32 n ++ t)
unfolding items
items_spell in_attachment at n y t lt h = then_spells word (λ k. repeat k (item in_attachment) []) at n y (le32 n) t (word_spells at n lt) h

no_more_items : (in_attachment : Bool) (before : List Item) (at : ℕ) → (repeat 0 (item in_attachment) before).spells at before []
unfolding repeat
no_more_items in_attachment before at = (refl, refl)

list_from_items : (in_attachment : Bool) (at : ℕ) (y : List Item) (l : PropList) (s : List ℕ) → list_of y ≡ l → (items in_attachment).spells at y s → (prop_list in_attachment).spells at l s
unfolding prop_list
list_from_items in_attachment at y l s e h = subst (λ z. (prop_list in_attachment).spells at z s) e (seen_spells (items in_attachment) list_of at y s h)

pub list_spells : (in_attachment : Bool) (names : List Name) (at : ℕ) (ps : List Prop) → length names ≤ 0x8000 → IsPropList ps → length (list_bytes names ps None) < 2 ^ 32 → (prop_list in_attachment).spells at (with_object ps None) (list_bytes names ps None)
list_spells in_attachment names at ps few h lt =
    let r = rising ps h.sorted in
    let n : more ps 0 ≡ length ps = more_length ps 0 ∙ omega arith in
    let short : length ps < 2 ^ 32 = omega (arith, length-props names ps) in
    let spelled : (repeat (more ps 0) (item in_attachment) []).spells (at + 4) (map kept ps) (props_bytes names ps ++ []) =
    props_then in_attachment names few ps [] 0 (map kept ps) [] (at + 4) (each_listed ps h.each h.units) r (none_before ps) (no_more_items in_attachment (map kept ps) (at + 4 + length (props_bytes names ps))) in
    let counted : (repeat (length ps) (item in_attachment) []).spells (at + 4) (map kept ps) (props_bytes names ps) =
    subst (λ z. (repeat (length ps) (item in_attachment) []).spells (at + 4) (map kept ps) z) (append-nil (props_bytes names ps)) (subst (λ k. (repeat k (item in_attachment) []).spells (at + 4) (map kept ps) (props_bytes names ps ++ [])) n spelled) in
    list_from_items in_attachment at (map kept ps) (with_object ps None) (list_bytes names ps None) (plain_list ps r) (items_spell in_attachment at (length ps) (map kept ps) (props_bytes names ps) short counted)

-- ---- the Object of an attachment in its place

abbrev the_object : Prop
the_object = with_pair (id 0x3701) OBJECT

-- whether a property comes before it is whether it is below it
before_is_less : (p : Prop) → comes_before_object p ≡ true → prop_cmp p the_object ≡ Less
before_is_less p h = by (key_cmp p.key (id 0x3701)) (nat_lt (kind_of p.value) OBJECT) refl h
  where
    by : (o : Ordering) (b : Bool) → nat_lt (kind_of p.value) OBJECT ≡ b → choose o true b false ≡ true → ordering_then o (nat_cmp (kind_of p.value) OBJECT) ≡ Less
    by Less b e g = refl
    by Equal true e g = rw e refl
    by Equal false e g = absurd cc
    by Greater b e g = absurd cc

less_is_before : (p : Prop) → prop_cmp p the_object ≡ Less → comes_before_object p ≡ true
less_is_before p h = by (key_cmp p.key (id 0x3701)) (nat_lt (kind_of p.value) OBJECT) (kind_of p.value == OBJECT) refl h
  where
    by : (o : Ordering) (b c : Bool) → nat_lt (kind_of p.value) OBJECT ≡ b → ordering_then o (cond (nat_lt (kind_of p.value) OBJECT) Less (cond c Equal Greater)) ≡ Less → choose o true (nat_lt (kind_of p.value) OBJECT) false ≡ true
    by Less b c e g = refl
    by Equal true c e g = e
    by Equal false true e g = absurd (let q : Equal ≡ Less = sym (ap (λ z. cond z Less Equal) e) ∙ g in cc)
    by Equal false false e g = absurd (let q : Greater ≡ Less = sym (ap (λ z. cond z Less Greater) e) ∙ g in cc)
    by Greater b c e g = absurd cc

-- behind one that does not, none does
stays_behind : (p q : Prop) → comes_before_object p ≡ false → prop_cmp p q ≡ Less → comes_before_object q ≡ false
stays_behind p q h g = by (comes_before_object q) refl
  where
    by : (b : Bool) → comes_before_object q ≡ b → comes_before_object q ≡ false
    by false e = e
    by true e = absurd (let less : comes_before_object p ≡ true = less_is_before p (prop_total.trans p q the_object g (before_is_less q e)) in cc)

abbrev front_of : List Prop → List Prop
front_of ps = filter comes_before_object ps

abbrev back_of : List Prop → List Prop
back_of ps = filter (λ p. not (comes_before_object p)) ps

all_behind : (ps : List Prop) → AllByRecursion (λ p. comes_before_object p ≡ false) ps → (front_of ps ≡ []) × (back_of ps ≡ ps)
all_behind [] h = (refl, refl)
all_behind (p ∷ ps) h = let r = all_behind ps h.1 in (rw h.0 r.0, rw h.0 (ap (λ (l : List Prop). p ∷ l) r.1))

all_stay : (p : Prop) (ps : List Prop) → comes_before_object p ≡ false → Above p ps → AllByRecursion (λ q. comes_before_object q ≡ false) ps
all_stay p [] h g = tt
all_stay p (q ∷ ps) h g = (stays_behind p q h g.0, all_stay p ps h g.1)

split_again : (ps : List Prop) → Rising ps → front_of ps ++ back_of ps ≡ ps
split_again [] r = refl
split_again (p ∷ ps) r = by (split_again ps r.1) (comes_before_object p) refl
  where
    by : front_of ps ++ back_of ps ≡ ps → (b : Bool) → comes_before_object p ≡ b → cond b (p ∷ front_of ps) (front_of ps) ++ cond (not b) (p ∷ back_of ps) (back_of ps) ≡ p ∷ ps
    by rest true e = ap (λ (l : List Prop). p ∷ l) rest
    by rest false e = let a = all_behind ps (all_stay p ps e r.0) in λ i. a.0 i ++ p ∷ a.1 i

-- ---- a list with it

object_list : (ps qs : List Prop) (place : ℕ) (x : List ℕ) → Rising (ps ++ qs) → list_of ((map kept ps ++ carried place x ∷ []) ++ map kept qs) ≡ with_object (ps ++ qs) (Some (place, x))
object_list ps qs place x r =
    let y = (map kept ps ++ carried place x ∷ []) ++ map kept qs in
    let p : filter_map prop_in y ≡ ps ++ qs = filter_map-append prop_in (map kept ps ++ carried place x ∷ []) (map kept qs) ∙ (λ i. filter_map-append prop_in (map kept ps) (carried place x ∷ []) i ++ props_kept qs i) ∙ (λ i. append-nil (props_kept ps i) i ++ qs) in
    let c : filter_map content_in y ≡ (place, x) ∷ [] = filter_map-append content_in (map kept ps ++ carried place x ∷ []) (map kept qs) ∙ (λ i. filter_map-append content_in (map kept ps) (carried place x ∷ []) i ++ content_none qs i) ∙ (λ i. (content_none ps i ++ (place, x) ∷ []) ++ []) in
    let g : filter_map passed_in y ≡ [] = filter_map-append passed_in (map kept ps ++ carried place x ∷ []) (map kept qs) ∙ (λ i. filter_map-append passed_in (map kept ps) (carried place x ∷ []) i ++ passed_none qs i) ∙ (λ i. (passed_none ps i ++ []) ++ []) in
    same_list _ (ps ++ qs) _ (Some (place, x)) _ [] (ap (with_elements prop_cmp []) p ∙ sorted_again (ps ++ qs) r) (ap first_of_list c) g

one_more : (in_attachment : Bool) (n m at : ℕ) (y : List Item) (before : List Item) (s : List ℕ) → n ≡ m → (repeat n (item in_attachment) before).spells at y s → (repeat m (item in_attachment) before).spells at y s
one_more in_attachment n m at y before s e h = subst (λ k. (repeat k (item in_attachment) before).spells at y s) e h

-- the properties before the Object, the Object, and those behind it
split_spells : (names : List Name) (few : length names ≤ 0x8000) (ps qs : List Prop) (x : List ℕ) (at : ℕ) → 16 ≤ length x → length x < 2 ^ 32 → AllByRecursion IsListed (ps ++ qs) → Rising (ps ++ qs)
    → (place : ℕ) × (repeat (more ps (suc (more qs 0))) (item true) []).spells at ((map kept ps ++ carried place x ∷ []) ++ map kept qs) (props_bytes names ps ++ (object_bytes x ++ (props_bytes names qs ++ [])))
split_spells names few ps qs x at long short each r =
    let behind = at + length (props_bytes names ps) in
    let object = object_spells behind x long short in
    let before = map kept ps ++ carried object.0 x ∷ [] in
    let all = before ++ map kept qs in
    let new : AllNew before qs = new_after_object (map kept ps) object.0 x qs (new_behind [] ps qs (none_before (ps ++ qs)) r) in
    let last : (repeat (more qs 0) (item true) before).spells (behind + length (object_bytes x)) all (props_bytes names qs ++ []) =
    props_then true names few qs before 0 all [] (behind + length (object_bytes x)) (each_back IsListed ps qs each) (rising_back ps qs r) new (no_more_items true all (behind + length (object_bytes x) + length (props_bytes names qs))) in
    let middle : (repeat (suc (more qs 0)) (item true) (map kept ps)).spells behind all (object_bytes x ++ (props_bytes names qs ++ [])) =
    repeat_more true (map kept ps) (more qs 0) behind (carried object.0 x) all (object_bytes x) (props_bytes names qs ++ []) (item_spells true (map kept ps) behind (carried object.0 x) (object_bytes x) (object_new object.0 x ps) object.1) last in
    (object.0, props_then true names few ps [] (suc (more qs 0)) all (object_bytes x ++ (props_bytes names qs ++ [])) at (each_front IsListed ps qs each) (rising_front ps qs r) (none_before ps) middle)

length-object : (x : List ℕ) → length x ≤ length (object_bytes x)
length-object x = omega (arith, length-append x (replicate (pad4 (length x)) 0))

-- how long a list with an Object is
length-carrying : (names : List Name) (ps : List Prop) (x : List ℕ) → Rising ps → length ps + length x ≤ length (list_bytes names ps (Some x))
length-carrying names ps x r =
    let front = props_bytes names (front_of ps) in
    let back = props_bytes names (back_of ps) in
    let parts : length ps ≡ length (front_of ps) + length (back_of ps) = ap length (sym (split_again ps r)) ∙ length-append (front_of ps) (back_of ps) in
    omega (arith, parts, length-props names (front_of ps), length-props names (back_of ps), length-object x, length-append front (object_bytes x ++ back), length-append (object_bytes x) back)

pub carrying_spells : (names : List Name) (at : ℕ) (ps : List Prop) (x : List ℕ) → length names ≤ 0x8000 → IsPropList ps → 16 ≤ length x → length (list_bytes names ps (Some x)) < 2 ^ 32 → (place : ℕ) × (prop_list true).spells at (with_object ps (Some (place, x))) (list_bytes names ps (Some x))
carrying_spells names at ps x few h long lt =
    let r = rising ps h.sorted in
    let whole = split_again ps r in
    let front = front_of ps in
    let back = back_of ps in
    let len = length-carrying names ps x r in
    let short : length x < 2 ^ 32 = omega (arith, len) in
    let counted : length ps + 1 < 2 ^ 32 = omega (arith, len) in
    let n : more front (suc (more back 0)) ≡ length ps + 1 = more_length front (suc (more back 0)) ∙ (let b = more_length back 0 in let c : length ps ≡ length front + length back = ap length (sym whole) ∙ length-append front back in omega (arith, b, c)) in
    let listed : AllByRecursion IsListed (front ++ back) = subst (λ l. AllByRecursion IsListed l) (sym whole) (each_listed ps h.each h.units) in
    let rises : Rising (front ++ back) = subst Rising (sym whole) r in
    let spelled = split_spells names few front back x (at + 4) long short listed rises in
    let y = (map kept front ++ carried spelled.0 x ∷ []) ++ map kept back in
    let t = props_bytes names front ++ (object_bytes x ++ props_bytes names back) in
    let again : (repeat (length ps + 1) (item true) []).spells (at + 4) y t = subst (λ z. (repeat (length ps + 1) (item true) []).spells (at + 4) y (props_bytes names front ++ (object_bytes x ++ z))) (append-nil (props_bytes names back)) (one_more true (more front (suc (more back 0))) (length ps + 1) (at + 4) y [] (props_bytes names front ++ (object_bytes x ++ (props_bytes names back ++ []))) n spelled.1) in
    let means : list_of y ≡ with_object ps (Some (spelled.0, x)) = object_list front back spelled.0 x rises ∙ ap (λ l. with_object l (Some (spelled.0, x))) whole in
    (spelled.0, list_from_items true at y (with_object ps (Some (spelled.0, x))) (list_bytes names ps (Some x)) means (items_spell true at (length ps + 1) y t counted again))

pub shorter_object : (names : List Name) (ps : List Prop) (x : List ℕ) → IsPropList ps → length x ≤ length (list_bytes names ps (Some x))
shorter_object names ps x h = omega (arith, length-carrying names ps x (rising ps h.sorted))
