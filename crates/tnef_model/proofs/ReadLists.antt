-- What is read of a property list is one.
use Rattle.std.proofs.Common.{◌≡◌, ℕ, zero, suc, ◌+◌, ◌/◌, ◌<◌, ◌≤◌, ◌^◌, ◌%◌, Bool, true, false, List, [], ◌∷◌, length, refl, sym, ap, subst, ◌∙◌, arith}
use Rattle.std.specs.List.{AllByRecursion}
use Rattle.std.specs.Prelude.{nat_lt, ◌==◌, ◌||◌, ◌&&◌, All, Option, Some, None, filter_map}
use Rattle.std.specs.Ordering.{ordering_reverse}
use Rattle.std.specs.declared.cmp.Ordering.{Ordering}
use Rattle.std.specs.declared.cmp.Ordering.TheVariants.{Less, Equal, Greater}
use Rattle.std.proofs.lemmas.Bool.{leb-true, ltb-true}
use Rattle.carrier_model.specs.Bytes.{AllBytes}
use Rattle.carrier_model.specs.Grammar.{gives, and_then, choice}
use Rattle.carrier_model.specs.Keys.{Name, Key, id, named, IsName, IsKey}
use Rattle.carrier_model.specs.Values.{Prop, IsProp, prop_cmp}
use Rattle.carrier_model.specs.Sorted.{IsStrictlySorted, choose, with_element, with_elements}
use Rattle.carrier_model.specs.Trees.{HasUnits, KeyHasUnits, IsPropList}
use Rattle.carrier_model.specs.Kinds.{without_null, is_kind, OBJECT, ATTACHED_OBJECT}
use Rattle.tnef_model.specs.TnefLists.{name_units, name_text, name_number, name, key, sized, Item, kept, passed, carried, tag, object, property, described, any_item, item, items, prop_in, content_in, PropList, list_of, prop_list, recipient_lists}
use Rattle.carrier_model.specs.Lists.{first_of_list}
use Rattle.carrier_model.proofs.Orders.{prop_total}
use Rattle.tnef_model.proofs.CanonicalLists.{Above, Rising}
use Rattle.carrier_model.proofs.TreeParts.{IsListed}
use Rattle.tnef_model.proofs.ReadValues.{Fit, fit_front, fit_back, part_length, word_reads, sized_reads, without_null-fit, Reads, repeat_reads, many_reads, value_reads}
use Rattle.carrier_model.proofs.Elements.{all_of}
use Rattle.carrier_model.proofs.Units.{units_below}

-- ---- names and keys

record NameRead (x : Name) : Type 0 where
  is : IsName x
  units : HasUnits x

number_reads : (at : ℕ) (set : List ℕ) (x : Name) (s : List ℕ) → Fit s → length set ≡ 16 → (name_number set).spells at x s → NameRead x
unfolding name_number
number_reads at set x s h len p = subst NameRead (sym p.second.0) (record { is = (len, (word_reads at p.x p.front (fit_front s p.front p.back p.parts h).bytes p.first).below); units = tt })

units_read : (at : ℕ) (t : ℕ × List ℕ) (s : List ℕ) → Fit s → name_units.spells at t s → AllByRecursion (λ unit. unit < 2 ^ 16) t.1
unfolding name_units
units_read at t s h p =
    let q = p.second in
    let front = fit_front p.back q.front q.back q.parts (fit_back s p.front p.back p.parts h) in
    let bytes : AllBytes q.x = subst AllBytes (sym q.first.0) front.bytes in
    subst (λ z. AllByRecursion (λ unit. unit < 2 ^ 16) z) (sym (ap (λ z. z.1) q.second.0)) (units_below (without_null 2 q.x) (without_null-fit 2 q.x bytes))

text_reads : (at : ℕ) (set : List ℕ) (x : Name) (s : List ℕ) → Fit s → length set ≡ 16 → (name_text set).spells at x s → NameRead x
unfolding name_text
text_reads at set x s h len p =
    let few : length p.x.1 ≤ 255 = leb-true (length p.x.1) 255 p.first.1 in
    let units = units_read at p.x p.front (fit_front s p.front p.back p.parts h) p.first.0 in
    subst NameRead (sym p.second.second.0) (record { is = (len, few); units = all_of (λ unit. unit < 2 ^ 16) p.x.1 units })

label_reads : (b : Bool) (at : ℕ) (set : List ℕ) (x : Name) (s : List ℕ) → Fit s → length set ≡ 16 → (choice b (name_number set) (name_text set)).spells at x s → NameRead x
label_reads true at set x s h len p = number_reads at set x s h len p
label_reads false at set x s h len p = text_reads at set x s h len p

name_reads : (at : ℕ) (x : Name) (s : List ℕ) → Fit s → name.spells at x s → NameRead x
unfolding name
name_reads at x s h p =
    let q = p.second in
    let back = fit_back p.back q.front q.back q.parts (fit_back s p.front p.back p.parts h) in
    label_reads (q.x == 0) (at + length p.front + length q.front) p.x x q.back back (ap length p.first.0 ∙ p.first.1) q.second

record KeyRead (k : Key) : Type 0 where
  is : IsKey k
  units : KeyHasUnits k

key_reads : (n at : ℕ) (k : Key) (s : List ℕ) → Fit s → (key n).spells at k s → KeyRead k
unfolding key
key_reads n at k s h p = by (nat_lt n 0x8000) refl p
  where
    by : (b : Bool) → nat_lt n 0x8000 ≡ b → (choice b (gives (id n)) (and_then name (λ x. gives (named x)))).spells at k s → KeyRead k
    by true e q = subst KeyRead (sym q.0) (record { is = ltb-true n 0x8000 e; units = tt })
    by false e q = let r = name_reads at q.x q.front (fit_front s q.front q.back q.parts h) q.first in subst KeyRead (sym q.second.0) (record { is = r.is; units = r.units })

-- ---- items

property_reads : (n kind at : ℕ) (p : Prop) (s : List ℕ) → Fit s → is_kind kind ≡ true → (property n kind).spells at p s → IsListed p
unfolding property
property_reads n kind at p s h known r =
    let q = r.second in
    let k = key_reads n at r.x r.front (fit_front s r.front r.back r.parts h) r.first in
    let v = value_reads kind (at + length r.front) q.x q.front (fit_front r.back q.front q.back q.parts (fit_back s r.front r.back r.parts h)) known q.first in
    subst IsListed (sym q.second.0) (record { good = record { key = k.is; value = v.0 }; units = k.units })

-- what an item of a list keeps to
abbrev pub IsRead : Item → Type 0
IsRead (kept p) = IsListed p
IsRead (passed t place) = Unit {0}
IsRead (carried place x) = Fit x

object_reads : (in_attachment : Bool) (place t at : ℕ) (x : Item) (s : List ℕ) → Fit s → (object in_attachment place t).spells at x s → IsRead x
unfolding object
object_reads in_attachment place t at x s h p = by (in_attachment && (t == ATTACHED_OBJECT)) p.second
  where
    by : (b : Bool) → (choice b (and_then (sized false 16) (λ y. gives (carried y.0 y.1))) (and_then (sized false 0) (λ y. gives (passed t place)))).spells (at + length p.front) x p.back → IsRead x
    by true q =
        let r = sized_reads false 16 (at + length p.front) q.x q.front (fit_front p.back q.front q.back q.parts (fit_back s p.front p.back p.parts h)) q.first in
        subst IsRead (sym q.second.0) r.fit
    by false q = subst IsRead (sym q.second.0) tt

described_reads : (in_attachment : Bool) (place t at : ℕ) (x : Item) (s : List ℕ) → Fit s → ((t % 0x10000 == OBJECT) || is_kind (t % 0x10000)) ≡ true → (described in_attachment place t).spells at x s → IsRead x
unfolding described
described_reads in_attachment place t at x s h known p = by (t % 0x10000 == OBJECT) known p
  where
    by : (b : Bool) → (b || is_kind (t % 0x10000)) ≡ true → (choice b (and_then (key (t / 0x10000)) (λ k. object in_attachment place t)) (and_then (property (t / 0x10000) (t % 0x10000)) (λ q. gives (kept q)))).spells at x s → IsRead x
    by true e q = object_reads in_attachment place t (at + length q.front) x q.back (fit_back s q.front q.back q.parts h) q.second
    by false e q = subst IsRead (sym q.second.0) (property_reads (t / 0x10000) (t % 0x10000) at q.x q.front (fit_front s q.front q.back q.parts h) e q.first)

item_reads : (in_attachment : Bool) (before : List Item) → Reads (item in_attachment before) IsRead
unfolding item any_item tag
item_reads in_attachment before at x s h p =
    let q = p.0 in
    let len = part_length s q.front q.back q.parts in
    let w = word_reads at q.x.1 q.front (fit_front s q.front q.back q.parts h).bytes q.first.1.0 in
    (described_reads in_attachment q.x.0 q.x.1 (at + length q.front) x q.back (fit_back s q.front q.back q.parts h) q.first.1.1 q.second, omega (arith, len, w.len))

-- ---- lists

each_with : (P : Prop → Type 0) (ps : List Prop) (p : Prop) → P p → AllByRecursion P ps → AllByRecursion P (with_element prop_cmp ps p)
each_with P [] p h e = (h, tt)
each_with P (q ∷ ps) p h e = by (prop_cmp q p) (each_with P ps p h e.1)
  where
    by : (o : Ordering) → AllByRecursion P (with_element prop_cmp ps p) → AllByRecursion P (choose o (q ∷ with_element prop_cmp ps p) (q ∷ ps) (p ∷ q ∷ ps))
    by Less rest = (e.0, rest)
    by Equal rest = e
    by Greater rest = (h, e)

above_more : (p q : Prop) (ps : List Prop) → prop_cmp p q ≡ Less → Above q ps → Above p ps
above_more p q [] h g = tt
above_more p q (r ∷ ps) h g = (prop_total.trans p q r h g.0, above_more p q ps h g.1)

rising_with : (ps : List Prop) (p : Prop) → Rising ps → Rising (with_element prop_cmp ps p)
rising_with [] p h = (tt, tt)
rising_with (q ∷ ps) p h = by (prop_cmp q p) refl (rising_with ps p h.1)
  where
    by : (o : Ordering) → prop_cmp q p ≡ o → Rising (with_element prop_cmp ps p) → Rising (choose o (q ∷ with_element prop_cmp ps p) (q ∷ ps) (p ∷ q ∷ ps))
    by Less e rest = (each_with (λ r. prop_cmp q r ≡ Less) ps p e h.0, rest)
    by Equal e rest = h
    by Greater e rest = let less : prop_cmp p q ≡ Less = prop_total.antisymm p q ∙ ap ordering_reverse e in ((less, above_more p q ps less h.0), h)

-- a list that rises, of properties as a list has them
pub record Good (ps : List Prop) : Type 0 where
  pub rises : Rising ps
  pub each : AllByRecursion IsListed ps

pub good_none : Good []
good_none = record { rises = tt; each = tt }

pub good_with : (ps more : List Prop) → Good ps → AllByRecursion IsListed more → Good (with_elements prop_cmp ps more)
good_with ps [] h g = h
good_with ps (p ∷ more) h g = good_with (with_element prop_cmp ps p) more (record { rises = rising_with ps p h.rises; each = each_with IsListed ps p g.0 h.each }) g.1

sorted_of : (ps : List Prop) → Rising ps → IsStrictlySorted prop_cmp ps
sorted_of [] h i j d lt in_range = absurd (omega (arith, in_range))
sorted_of (p ∷ ps) h zero zero d lt in_range = absurd (omega (arith, lt))
sorted_of (p ∷ ps) h zero (suc j) d lt in_range = all_of (λ q. prop_cmp p q ≡ Less) ps h.0 j d (omega arith)
sorted_of (p ∷ ps) h (suc i) zero d lt in_range = absurd (omega (arith, lt))
sorted_of (p ∷ ps) h (suc i) (suc j) d lt in_range = sorted_of ps h.1 i j d (omega arith) (omega arith)

all_props : (ps : List Prop) → AllByRecursion IsListed ps → All IsProp ps
all_props [] h k d lt = absurd (omega (arith, lt))
all_props (p ∷ ps) h zero d lt = h.0.good
all_props (p ∷ ps) h (suc k) d lt = all_props ps h.1 k d (omega arith)

all_units : (ps : List Prop) → AllByRecursion IsListed ps → All (λ p. KeyHasUnits p.key) ps
all_units [] h k d lt = absurd (omega (arith, lt))
all_units (p ∷ ps) h zero d lt = h.0.units
all_units (p ∷ ps) h (suc k) d lt = all_units ps h.1 k d (omega arith)

pub list_from_good : (ps : List Prop) → Good ps → IsPropList ps
list_from_good ps h = record { sorted = sorted_of ps h.rises; each = all_props ps h.each; units = all_units ps h.each }

props_read : (l : List Item) → AllByRecursion IsRead l → AllByRecursion IsListed (filter_map prop_in l)
props_read [] h = tt
props_read (kept p ∷ l) h = (h.0, props_read l h.1)
props_read (passed t place ∷ l) h = props_read l h.1
props_read (carried place x ∷ l) h = props_read l h.1

abbrev pub ObjectFits : Option (ℕ × List ℕ) → Type 0
ObjectFits None = Unit {0}
ObjectFits (Some x) = Fit x.1

object_read : (l : List Item) → AllByRecursion IsRead l → ObjectFits (first_of_list (filter_map content_in l))
object_read [] h = tt
object_read (kept p ∷ l) h = object_read l h.1
object_read (passed t place ∷ l) h = object_read l h.1
object_read (carried place x ∷ l) h = h.0

pub record ListRead (l : PropList) : Type 0 where
  pub good : Good l.props
  pub object : ObjectFits l.object

pub list_reads : (in_attachment : Bool) → Reads (prop_list in_attachment) ListRead
unfolding prop_list items
list_reads in_attachment at l s h p =
    let q = p.first in
    let front = fit_front s p.front p.back p.parts h in
    let w = word_reads at q.x q.front (fit_front p.front q.front q.back q.parts front).bytes q.first in
    let r = repeat_reads (item in_attachment) IsRead (item_reads in_attachment) q.x [] (at + length q.front) p.x q.back (fit_back p.front q.front q.back q.parts front) tt q.second in
    let read : ListRead (list_of p.x) = record { good = good_with [] (filter_map prop_in p.x) good_none (props_read p.x r.each); object = object_read p.x r.each } in
    (subst ListRead (sym p.second.0) read, omega (arith, w.len, part_length p.front q.front q.back q.parts, part_length s p.front p.back p.parts))

pub recipients_read : (at : ℕ) (lists : List PropList) (s : List ℕ) → Fit s → recipient_lists.spells at lists s → AllByRecursion ListRead lists
unfolding recipient_lists
recipients_read at lists s h p = (many_reads (prop_list false) ListRead (list_reads false) at lists s h p).each
