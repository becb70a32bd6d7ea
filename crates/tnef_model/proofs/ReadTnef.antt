-- What a TNEF stream means is a tree.
use Rattle.std.proofs.Common.{◌≡◌, ℕ, zero, suc, ◌+◌, ◌≤◌, Bool, true, false, cond, List, [], ◌∷◌, ◌++◌, length, take, drop, map, reverse, refl, sym, ap, subst, ◌∙◌, arith}
use Rattle.std.specs.List.{flat_map, list_any, cons_option, prefix_len, take_while, AllByRecursion}
use Rattle.std.specs.Prelude.{◌==◌, ◌||◌, ◌&&◌, Option, Some, None, filter, not, zip}
use Rattle.std.proofs.lemmas.List.{append-nil, reverse-append, length-drop}
use Rattle.std.proofs.lemmas.List.Folds.{list_any-append}
use Rattle.std.proofs.lemmas.Bool.{eqb-true}
use Rattle.carrier_model.specs.Bytes.{AllBytes}
use Rattle.carrier_model.specs.Trail.{first_fault}
use Rattle.tnef_model.specs.Attributes.{Attr}
use Rattle.carrier_model.specs.Grammar.{gives, and_then, choice, Whole}
use Rattle.carrier_model.specs.Keys.{is_id}
use Rattle.carrier_model.specs.Values.{Prop}
use Rattle.carrier_model.specs.Tree.{Message, Body, nothing, embedded, stored, attachments_from, GREATEST_LEVEL}
use Rattle.carrier_model.specs.Reasons.{TOO_DEEP}
use Rattle.carrier_model.specs.Trees.{IsPropList, IsTree}
use Rattle.tnef_model.specs.LegacyAttributes.{MESSAGE_PROPS, RECIPIENTS, RENDERING, ATTACHMENT, is_message_id, is_attachment_id, legacy_prop}
use Rattle.tnef_model.specs.TnefLists.{PropList, prop_list, recipient_lists}
use Rattle.carrier_model.specs.Meanings.{Passed, Meaning, Held, held_message}
use Rattle.tnef_model.specs.TnefMessage.{Gift, no_gift, message_list, recipients, attachment, Part, part, with_inner, inner_of, content, has_attr, is_there, place_tests, AllStand, Read, props_in, recipients_in, body_in, or_else, body_among, derived, has_key_of, joined, beside, attached_by, groups, message_by, StreamMeans, IID_MESSAGE, IID_STORAGE, has_id, refused, behind_interface, by_interface, object_with, message_within, TnefCarrier}
use Rattle.carrier_model.proofs.Tests.{passing}
use Rattle.carrier_model.proofs.Numbers.{AllBytes-drop}
use Rattle.carrier_model.proofs.TreeParts.{IsListed, AttachmentsFit, BodyFits, Fits, one_more}
use Rattle.tnef_model.proofs.ReadValues.{Fit, fit_front}
use Rattle.carrier_model.proofs.Elements.{all_of}
use Rattle.tnef_model.proofs.ReadLists.{Good, good_none, good_with, list_from_good, ObjectFits, ListRead, list_reads, recipients_read}
use Rattle.carrier_model.proofs.StoreRead.{file_is_store}
use Rattle.tnef_model.proofs.ReadAttributes.{AttrFit, attrs_fit, legacy_listed}

-- ---- what an attribute gives

abbrev GiftFits : ℕ → Gift → Type 0
GiftFits n no_gift = Unit {0}
GiftFits n (message_list props) = Good props
GiftFits n (recipients lists) = AllByRecursion Good lists
GiftFits n (attachment props body) = Good props × BodyFits n body

record PartRead (n : ℕ) (a : Attr) (p : Part) : Type 0 where
  fits : GiftFits n p.gift
  list : (a.id == MESSAGE_PROPS) ≡ false → (a.id == ATTACHMENT) ≡ false → props_in p.gift ≡ []

-- what an Object of an attachment means, with one level more
abbrev ObjectsFit : Whole Held → ℕ → Type 0
ObjectsFit objects n = (place : ℕ) (x : List ℕ) (h : Held) → Fit x → objects.means place x h → BodyFits n h.body

good_props : (lists : List PropList) → AllByRecursion ListRead lists → AllByRecursion Good (map (λ (l : PropList). l.props) lists)
good_props [] h = tt
good_props (l ∷ lists) h = (h.0.good, good_props lists h.1)

false_or_true : (b : Bool) → b ≡ true → b ≡ false → ⊥
false_or_true b p q = cc

inner_reads : (objects : Whole Held) (n : ℕ) → ObjectsFit objects n → (l : PropList) (at : ℕ) (m : Option Held) (s : List ℕ) → ListRead l → (inner_of objects l.object).spells at m s → GiftFits n (with_inner l m).gift
inner_reads objects n fits l at m s h p = by l.object h.object p
  where
    by : (o : Option (ℕ × List ℕ)) → ObjectFits o → (inner_of objects o).spells at m s → GiftFits n (with_inner l m).gift
    by None f q = subst (λ z. GiftFits n (with_inner l z).gift) (sym q.0) (h.good, tt)
    by (Some x) f q = subst (λ z. GiftFits n (with_inner l z).gift) (sym q.second.0) (h.good, fits x.0 x.1 q.x f q.first.0)

content_reads : (objects : Whole Held) (n : ℕ) → ObjectsFit objects n → (a : Attr) (at : ℕ) (p : Part) (s : List ℕ) → Fit s → (content objects a).spells at p s → PartRead n a p
unfolding content
content_reads objects n fits a at p s h c = by (a.id == MESSAGE_PROPS) (a.id == RECIPIENTS) (a.id == ATTACHMENT) (is_message_id a.id || is_attachment_id a.id) refl refl c
  where
    by : (b1 b2 b3 b4 : Bool) → (a.id == MESSAGE_PROPS) ≡ b1 → (a.id == ATTACHMENT) ≡ b3
        → (choice b1 (and_then (prop_list false) (λ l. gives (part (message_list l.props) l.passed)))
        (choice b2 (and_then recipient_lists (λ lists. gives (part (recipients (map (λ l. l.props) lists)) (flat_map (λ l. l.passed) lists))))
        (choice b3 (and_then (prop_list true) (λ l. and_then (inner_of objects l.object) (λ m. gives (with_inner l m))))
        (choice b4 (gives (part no_gift []))
        (gives (part no_gift ((true, a.id, a.offset) ∷ []))))))).spells at p s → PartRead n a p
    by true b2 b3 b4 e f q =
        let l = list_reads false at q.x q.front (fit_front s q.front q.back q.parts h) q.first in
        subst (λ z. PartRead n a z) (sym q.second.0) (record { fits = l.0.good; list = λ x y. absurd (false_or_true (a.id == MESSAGE_PROPS) e x) })
    by false true b3 b4 e f q =
        let l = recipients_read at q.x q.front (fit_front s q.front q.back q.parts h) q.first in
        subst (λ z. PartRead n a z) (sym q.second.0) (record { fits = good_props q.x l; list = λ x y. refl })
    by false false true b4 e f q =
        let l = list_reads true at q.x q.front (fit_front s q.front q.back q.parts h) q.first in
        let r = q.second in
        let g = inner_reads objects n fits q.x (at + length q.front) r.x r.front l.0 r.first in
        subst (λ z. PartRead n a z) (sym r.second.0) (record { fits = g; list = λ x y. absurd (false_or_true (a.id == ATTACHMENT) f y) })
    by false false false true e f q = subst (λ z. PartRead n a z) (sym q.0) (record { fits = tt; list = λ x y. refl })
    by false false false false e f q = subst (λ z. PartRead n a z) (sym q.0) (record { fits = tt; list = λ x y. refl })

record ReadFits (n : ℕ) (r : Read) : Type 0 where
  attr : AttrFit r.0
  part : PartRead n r.0 r.1

reads_fit : (objects : Whole Held) (n : ℕ) → ObjectsFit objects n → (before attrs : List Attr) (parts : List Part) → AllByRecursion AttrFit attrs → AllStand objects before attrs parts → AllByRecursion (ReadFits n) (zip attrs parts)
reads_fit objects n fits before [] parts h s = tt
reads_fit objects n fits before (a ∷ attrs) [] h s = tt
reads_fit objects n fits before (a ∷ attrs) (p ∷ parts) h s =
    let m = s.0.means in
    (record { attr = h.0; part = content_reads objects n fits a (a.offset + 9) p m.1.text (fit_front a.bytes m.1.text m.0 m.1.parts h.0.fit) m.1.spelled }, reads_fit objects n fits (before ++ a ∷ []) attrs parts h.1 s.1)

-- ---- no list comes twice

record Placed (before : List Attr) (a : Attr) : Type 0 where
  alone : (a.id == RENDERING) ≡ false → is_there before a ≡ false

placed : (before : List Attr) (a : Attr) → first_fault (place_tests before a) ≡ None → Placed before a
placed before a e = let t = passing (place_tests before a) e in record { alone = λ f. by (a.id == RENDERING) (is_there before a) f t.1.0 }
  where
    by : (b c : Bool) → b ≡ false → (b || not c) ≡ true → c ≡ false
    by true c f g = absurd cc
    by false true f g = absurd cc
    by false false f g = refl

-- of a message's own attributes at most one gives a list
record OneList (before : List Attr) (own : List Prop) : Type 0 where
  none : list_any (has_attr MESSAGE_PROPS) before ≡ true → own ≡ []
  good : Good own

or_first : (a b : Bool) → a ≡ true → (a || b) ≡ true
or_first true b e = refl
or_first false b e = absurd cc

or_last : (a : Bool) → (a || (true || false)) ≡ true
or_last true = refl
or_last false = refl

any_more : (t : Attr → Bool) (before : List Attr) (a : Attr) → list_any t before ≡ true → list_any t (before ++ a ∷ []) ≡ true
any_more t before a e = list_any-append t before (a ∷ []) ∙ or_first (list_any t before) (t a || false) e

any_here : (t : Attr → Bool) (before : List Attr) (a : Attr) → t a ≡ true → list_any t (before ++ a ∷ []) ≡ true
any_here t before a e = list_any-append t before (a ∷ []) ∙ (ap (λ b. list_any t before || (b || false)) e ∙ or_last (list_any t before))

abbrev own_props : List Read → List Prop
own_props reads = flat_map (λ (r : Read). props_in r.1.gift) (filter (λ (r : Read). is_message_id r.0.id) reads)

front_none : (front back : List Prop) → front ≡ [] → front ++ back ≡ back
front_none front back e = ap (λ z. z ++ back) e

-- an id tells what an attribute is
not_attachment_list : (n : ℕ) → is_message_id n ≡ true → (n == ATTACHMENT) ≡ false
not_attachment_list n e = by (n == ATTACHMENT) refl
  where
    by : (b : Bool) → (n == ATTACHMENT) ≡ b → (n == ATTACHMENT) ≡ false
    by true f = absurd (let g : is_message_id ATTACHMENT ≡ true = ap is_message_id (sym (eqb-true n ATTACHMENT f)) ∙ e in cc)
    by false f = f

not_rendering : (n : ℕ) → n ≡ MESSAGE_PROPS → (n == RENDERING) ≡ false
not_rendering n e = ap (λ k. k == RENDERING) e

good_alone : (n : ℕ) (p : Part) → GiftFits n p.gift → Good (props_in p.gift)
good_alone n p h = by p.gift h
  where
    by : (g : Gift) → GiftFits n g → Good (props_in g)
    by no_gift f = good_none
    by (message_list props) f = f
    by (recipients lists) f = good_none
    by (attachment props body) f = f.0

own_one : (objects : Whole Held) (n : ℕ) (before attrs : List Attr) (parts : List Part) → AllStand objects before attrs parts → AllByRecursion (ReadFits n) (zip attrs parts) → OneList before (own_props (zip attrs parts))
own_one objects n before [] parts s h = record { none = λ e. refl; good = good_none }
own_one objects n before (a ∷ attrs) [] s h = record { none = λ e. refl; good = good_none }
own_one objects n before (a ∷ attrs) (p ∷ parts) s h =
    let next = own_one objects n (before ++ a ∷ []) attrs parts s.1 h.1 in
    by (is_message_id a.id) (a.id == MESSAGE_PROPS) refl refl next
  where
    by : (b c : Bool) → is_message_id a.id ≡ b → (a.id == MESSAGE_PROPS) ≡ c → OneList (before ++ a ∷ []) (own_props (zip attrs parts)) → OneList before (flat_map (λ (r : Read). props_in r.1.gift) (cond b ((a, p) ∷ filter (λ (r : Read). is_message_id r.0.id) (zip attrs parts)) (filter (λ (r : Read). is_message_id r.0.id) (zip attrs parts))))
    by false c e f next = record { none = λ g. next.none (any_more (has_attr MESSAGE_PROPS) before a g); good = next.good }
    by true true e f next =
        let is : a.id ≡ MESSAGE_PROPS = eqb-true a.id MESSAGE_PROPS f in
        let new : is_there before a ≡ false = (placed before a s.0.place).alone (not_rendering a.id is) in
        let fresh : list_any (has_attr MESSAGE_PROPS) before ≡ false = ap (λ (k : ℕ). list_any (has_attr k) before) (sym is) ∙ (sym (ap (λ z. cond z (list_any (has_attr a.id) before) (is_attachment_id a.id && list_any (has_attr a.id) (take_while (λ b. not (has_attr RENDERING b)) (reverse before)))) e) ∙ new) in
        let none : own_props (zip attrs parts) ≡ [] = next.none (any_here (has_attr MESSAGE_PROPS) before a f) in
        let whole : props_in p.gift ++ own_props (zip attrs parts) ≡ props_in p.gift = ap (λ z. props_in p.gift ++ z) none ∙ append-nil (props_in p.gift) in
        record { none = λ g. absurd (false_or_true (list_any (has_attr MESSAGE_PROPS) before) g fresh); good = subst Good (sym whole) (good_alone n p h.0.part.fits) }
    by true false e f next =
        let whole : props_in p.gift ++ own_props (zip attrs parts) ≡ own_props (zip attrs parts) = front_none (props_in p.gift) (own_props (zip attrs parts)) (h.0.part.list f (not_attachment_list a.id e)) in
        record { none = λ g. whole ∙ next.none (any_more (has_attr MESSAGE_PROPS) before a g); good = subst Good (sym whole) next.good }

-- ---- the attributes of each attachment

abbrev goes_on : Read → Bool
goes_on o = not (has_attr RENDERING o.0)

abbrev same_one : Attr → Bool
same_one b = not (has_attr RENDERING b)

take_while-cons : {A : Type 0} (t : A → Bool) (x : A) (xs : List A) → take_while t (x ∷ xs) ≡ cond (t x) (x ∷ take_while t xs) []
take_while-cons t x xs = by (t x)
  where
    by : (b : Bool) → take (cond b (1 + prefix_len t xs) 0) (x ∷ xs) ≡ cond b (x ∷ take_while t xs) []
    by true = let e : 1 + prefix_len t xs ≡ suc (prefix_len t xs) = omega arith in ap (λ k. take k (x ∷ xs)) e
    by false = refl

-- whether the attachment that was begun last has its list
abbrev has_list : List Attr → Bool
has_list before = list_any (has_attr ATTACHMENT) (take_while same_one (reverse before))

has_list-more : (before : List Attr) (a : Attr) → has_list (before ++ a ∷ []) ≡ cond (same_one a) (has_attr ATTACHMENT a || has_list before) false
has_list-more before a = ap (λ l. list_any (has_attr ATTACHMENT) (take_while same_one l)) (reverse-append before (a ∷ [])) ∙ (ap (list_any (has_attr ATTACHMENT)) (take_while-cons same_one a (reverse before)) ∙ by (same_one a))
  where
    by : (b : Bool) → list_any (has_attr ATTACHMENT) (cond b (a ∷ take_while same_one (reverse before)) []) ≡ cond b (has_attr ATTACHMENT a || has_list before) false
    by true = refl
    by false = refl

has_list-kept : (before : List Attr) (a : Attr) → (a.id == RENDERING) ≡ false → (a.id == ATTACHMENT) ≡ false → has_list (before ++ a ∷ []) ≡ has_list before
has_list-kept before a e f = has_list-more before a ∙ rw (e, f) refl

has_list-now : (before : List Attr) (a : Attr) → (a.id == RENDERING) ≡ false → (a.id == ATTACHMENT) ≡ true → has_list (before ++ a ∷ []) ≡ true
has_list-now before a e f = has_list-more before a ∙ rw (e, f) refl

abbrev theirs : List Read → List Read
theirs reads = filter (λ (r : Read). is_attachment_id r.0.id) reads

abbrev listed_props : List Read → List Prop
listed_props reads = flat_map (λ (r : Read). props_in r.1.gift) reads

record GroupFits (n : ℕ) (g : List Read) : Type 0 where
  good : Good (listed_props g)
  each : AllByRecursion (ReadFits n) g

record Grouped (n : ℕ) (before : List Attr) (l : List Read) : Type 0 where
  none : has_list before ≡ true → listed_props (take_while goes_on l) ≡ []
  good : Good (listed_props (take_while goes_on l))
  groups : AllByRecursion (GroupFits n) (groups l)

each_take : {A : Type 0} (P : A → Type 0) (k : ℕ) (xs : List A) → AllByRecursion P xs → AllByRecursion P (take k xs)
each_take P zero xs h = tt
each_take P (suc k) [] h = tt
each_take P (suc k) (x ∷ xs) h = (h.0, each_take P k xs h.1)

each_filter : {A : Type 0} (P : A → Type 0) (t : A → Bool) (xs : List A) → AllByRecursion P xs → AllByRecursion P (filter t xs)
each_filter P t [] h = tt
each_filter P t (x ∷ xs) h = by (t x) (each_filter P t xs h.1)
  where
    by : (b : Bool) → AllByRecursion P (filter t xs) → AllByRecursion P (cond b (x ∷ filter t xs) (filter t xs))
    by true rest = (h.0, rest)
    by false rest = rest

-- an id tells that an attribute is none of an attachment
not_begun : (n : ℕ) → is_attachment_id n ≡ false → (n == RENDERING) ≡ false
not_begun n e = by (n == RENDERING) refl
  where
    by : (b : Bool) → (n == RENDERING) ≡ b → (n == RENDERING) ≡ false
    by true f = absurd (let g : is_attachment_id RENDERING ≡ false = ap is_attachment_id (sym (eqb-true n RENDERING f)) ∙ e in cc)
    by false f = f

not_listed : (n : ℕ) → is_attachment_id n ≡ false → (n == ATTACHMENT) ≡ false
not_listed n e = by (n == ATTACHMENT) refl
  where
    by : (b : Bool) → (n == ATTACHMENT) ≡ b → (n == ATTACHMENT) ≡ false
    by true f = absurd (let g : is_attachment_id ATTACHMENT ≡ false = ap is_attachment_id (sym (eqb-true n ATTACHMENT f)) ∙ e in cc)
    by false f = f

not_own_list : (n : ℕ) → is_attachment_id n ≡ true → (n == MESSAGE_PROPS) ≡ false
not_own_list n e = by (n == MESSAGE_PROPS) refl
  where
    by : (b : Bool) → (n == MESSAGE_PROPS) ≡ b → (n == MESSAGE_PROPS) ≡ false
    by true f = absurd (let g : is_attachment_id MESSAGE_PROPS ≡ true = ap is_attachment_id (sym (eqb-true n MESSAGE_PROPS f)) ∙ e in cc)
    by false f = f

-- an attribute that begins an attachment
begins : (n : ℕ) (before : List Attr) (r : Read) (l : List Read) → ReadFits n r → AllByRecursion (ReadFits n) l → is_attachment_id r.0.id ≡ true → (r.0.id == RENDERING) ≡ true → Grouped n (before ++ r.0 ∷ []) l → Grouped n before (r ∷ l)
begins n before r l h each e f next =
    let ends : take_while goes_on (r ∷ l) ≡ [] = take_while-cons goes_on r l ∙ ap (λ b. cond (not b) (r ∷ take_while goes_on l) []) f in
    let is : r.0.id ≡ RENDERING = eqb-true r.0.id RENDERING f in
    let gives_none : props_in r.1.gift ≡ [] = h.part.list (not_own_list r.0.id e) (ap (λ k. k == ATTACHMENT) is) in
    let first : GroupFits n (r ∷ take_while goes_on l) = record {
      good = subst Good (sym (front_none (props_in r.1.gift) (listed_props (take_while goes_on l)) gives_none)) next.good;
      each = (h, each_take (ReadFits n) (prefix_len goes_on l) l each);
    } in
    record {
      none = λ g. ap listed_props ends;
      good = subst (λ z. Good (listed_props z)) (sym ends) good_none;
      groups = subst (λ b. AllByRecursion (GroupFits n) (cond b ((r ∷ take_while goes_on l) ∷ groups l) (groups l))) (sym f) (first, next.groups);
    }

-- an attribute of the attachment that was begun last
continues : (n : ℕ) (before : List Attr) (r : Read) (l : List Read) → ReadFits n r → Placed before r.0 → is_attachment_id r.0.id ≡ true → (r.0.id == RENDERING) ≡ false → Grouped n (before ++ r.0 ∷ []) l → Grouped n before (r ∷ l)
continues n before r l h place e f next =
    let goes : take_while goes_on (r ∷ l) ≡ r ∷ take_while goes_on l = take_while-cons goes_on r l ∙ ap (λ b. cond (not b) (r ∷ take_while goes_on l) []) f in
    let rest = by (r.0.id == ATTACHMENT) refl in
    record {
      none = λ g. ap listed_props goes ∙ rest.0 g;
      good = subst (λ z. Good (listed_props z)) (sym goes) rest.1;
      groups = subst (λ b. AllByRecursion (GroupFits n) (cond b ((r ∷ take_while goes_on l) ∷ groups l) (groups l))) (sym f) next.groups;
    }
  where
    by : (b : Bool) → (r.0.id == ATTACHMENT) ≡ b → (has_list before ≡ true → props_in r.1.gift ++ listed_props (take_while goes_on l) ≡ []) × Good (props_in r.1.gift ++ listed_props (take_while goes_on l))
    by true g =
        let is : r.0.id ≡ ATTACHMENT = eqb-true r.0.id ATTACHMENT g in
        let new : is_there before r.0 ≡ false = place.alone f in
        let fresh : has_list before ≡ false = ap (λ (k : ℕ). cond (is_message_id k) (list_any (has_attr k) before) (is_attachment_id k && list_any (has_attr k) (take_while same_one (reverse before)))) (sym is) ∙ new in
        let none : listed_props (take_while goes_on l) ≡ [] = next.none (has_list-now before r.0 f g) in
        let whole : props_in r.1.gift ++ listed_props (take_while goes_on l) ≡ props_in r.1.gift = ap (λ z. props_in r.1.gift ++ z) none ∙ append-nil (props_in r.1.gift) in
        (λ k. absurd (false_or_true (has_list before) k fresh), subst Good (sym whole) (good_alone n r.1 h.part.fits))
    by false g =
        let whole : props_in r.1.gift ++ listed_props (take_while goes_on l) ≡ listed_props (take_while goes_on l) = front_none (props_in r.1.gift) (listed_props (take_while goes_on l)) (h.part.list (not_own_list r.0.id e) g) in
        (λ k. whole ∙ next.none (has_list-kept before r.0 f g ∙ k), subst Good (sym whole) next.good)

-- an attribute of the message
beside_them : (n : ℕ) (before : List Attr) (a : Attr) (l : List Read) → is_attachment_id a.id ≡ false → Grouped n (before ++ a ∷ []) l → Grouped n before l
beside_them n before a l e next = record { none = λ g. next.none (has_list-kept before a (not_begun a.id e) (not_listed a.id e) ∙ g); good = next.good; groups = next.groups }

grouped : (objects : Whole Held) (n : ℕ) (before attrs : List Attr) (parts : List Part) → AllStand objects before attrs parts → AllByRecursion (ReadFits n) (zip attrs parts) → Grouped n before (theirs (zip attrs parts))
grouped objects n before [] parts s h = record { none = λ e. refl; good = good_none; groups = tt }
grouped objects n before (a ∷ attrs) [] s h = record { none = λ e. refl; good = good_none; groups = tt }
grouped objects n before (a ∷ attrs) (p ∷ parts) s h =
    let next = grouped objects n (before ++ a ∷ []) attrs parts s.1 h.1 in
    by (is_attachment_id a.id) (a.id == RENDERING) refl refl next
  where
    by : (b c : Bool) → is_attachment_id a.id ≡ b → (a.id == RENDERING) ≡ c → Grouped n (before ++ a ∷ []) (theirs (zip attrs parts)) → Grouped n before (cond b ((a, p) ∷ theirs (zip attrs parts)) (theirs (zip attrs parts)))
    by false c e f next = beside_them n before a (theirs (zip attrs parts)) e next
    by true true e f next = begins n before (a, p) (theirs (zip attrs parts)) h.0 (each_filter (ReadFits n) (λ (r : Read). is_attachment_id r.0.id) (zip attrs parts) h.1) e f next
    by true false e f next = continues n before (a, p) (theirs (zip attrs parts)) h.0 (placed before a s.0.place) e f next

-- ---- what all of them give

derived_listed : (n : ℕ) (reads : List Read) → AllByRecursion (ReadFits n) reads → AllByRecursion IsListed (derived reads)
derived_listed n [] h = tt
derived_listed n (r ∷ reads) h = by (legacy_prop r.0.id r.0.bytes) (legacy_listed r.0 h.0.attr) (derived_listed n reads h.1)
  where
    by : (o : Option Prop) → AllByRecursion IsListed (cons_option o []) → AllByRecursion IsListed (derived reads) → AllByRecursion IsListed (cons_option o (derived reads))
    by None f rest = rest
    by (Some p) f rest = (f.0, rest)

joined_good : (props more : List Prop) → Good props → AllByRecursion IsListed more → Good (joined props more)
joined_good props more h g = good_with props (filter (λ p. not (has_key_of props p)) more) h (each_filter IsListed (λ p. not (has_key_of props p)) more g)

beside_listed : (body : Body) (more : List Prop) → AllByRecursion IsListed more → AllByRecursion IsListed (beside body more)
beside_listed nothing more h = h
beside_listed (embedded inner) more h = each_filter IsListed (λ p. not (is_id 0x3701 p.key)) more h
beside_listed (stored store) more h = each_filter IsListed (λ p. not (is_id 0x3701 p.key)) more h

body_fits : (n : ℕ) (reads : List Read) → AllByRecursion (ReadFits n) reads → BodyFits n (body_among reads)
body_fits n [] h = tt
body_fits n (r ∷ reads) h = by r.1.gift h.0.part.fits (body_fits n reads h.1)
  where
    either : (body other : Body) → BodyFits n body → BodyFits n other → BodyFits n (or_else body other)
    either nothing other f g = g
    either (embedded inner) other f g = f
    either (stored store) other f g = f

    by : (g : Gift) → GiftFits n g → BodyFits n (body_among reads) → BodyFits n (or_else (body_in g) (body_among reads))
    by no_gift f rest = rest
    by (message_list props) f rest = rest
    by (recipients lists) f rest = rest
    by (attachment props body) f rest = either body (body_among reads) f.1 rest

rows_good : (n : ℕ) (reads : List Read) → AllByRecursion (ReadFits n) reads → AllByRecursion IsPropList (flat_map (λ (r : Read). recipients_in r.1.gift) reads)
rows_good n [] h = tt
rows_good n (r ∷ reads) h = by r.1.gift h.0.part.fits (rows_good n reads h.1)
  where
    all_lists : (lists more : List (List Prop)) → AllByRecursion Good lists → AllByRecursion IsPropList more → AllByRecursion IsPropList (lists ++ more)
    all_lists [] more f g = g
    all_lists (l ∷ lists) more f g = (list_from_good l f.0, all_lists lists more f.1 g)

    by : (g : Gift) → GiftFits n g → AllByRecursion IsPropList (flat_map (λ (r : Read). recipients_in r.1.gift) reads) → AllByRecursion IsPropList (recipients_in g ++ flat_map (λ (r : Read). recipients_in r.1.gift) reads)
    by no_gift f rest = rest
    by (message_list props) f rest = rest
    by (recipients lists) f rest = all_lists lists (flat_map (λ (r : Read). recipients_in r.1.gift) reads) f rest
    by (attachment props body) f rest = rest

attachments_fit : (n : ℕ) (gs : List (List Read)) → AllByRecursion (GroupFits n) gs → AttachmentsFit n (attachments_from (map attached_by gs))
attachments_fit n [] h = record { lists = tt; levels = omega arith }
attachments_fit n (g ∷ gs) h =
    let body = body_among g in
    one_more n (joined (listed_props g) (beside body (derived g))) body (map attached_by gs) (list_from_good (joined (listed_props g) (beside body (derived g))) (joined_good (listed_props g) (beside body (derived g)) h.0.good (beside_listed body (derived g) (derived_listed n g h.0.each)))) (body_fits n g h.0.each) (attachments_fit n gs h.1)

stream_fits : (objects : Whole Held) (n : ℕ) → ObjectsFit objects n → (at : ℕ) (s : List ℕ) (m : Meaning) → Fit s → StreamMeans objects at s m → Fits n m.message
stream_fits objects n fits at s m h means =
    let reads = zip means.attrs means.parts in
    let each = reads_fit objects n fits [] means.attrs means.parts (attrs_fit at s means.attrs h means.there) means.stand in
    let own = filter (λ (r : Read). is_message_id r.0.id) reads in
    let own_each = each_filter (ReadFits n) (λ (r : Read). is_message_id r.0.id) reads each in
    let props = (own_one objects n [] means.attrs means.parts means.stand each).good in
    let gs = (grouped objects n [] means.attrs means.parts means.stand each).groups in
    let a = attachments_fit n (groups (theirs reads)) gs in
    let all : Fits n (message_by reads) = record {
      lists = (list_from_good (joined (listed_props own) (derived own)) (joined_good (listed_props own) (derived own) props (derived_listed n own own_each)), (all_of IsPropList (flat_map (λ (r : Read). recipients_in r.1.gift) own) (rows_good n own own_each), a.lists));
      levels = a.levels;
    } in
    subst (λ z. Fits n z.message) (sym means.meaning) all

dropped : (x : List ℕ) → Fit x → Fit (drop 16 x)
dropped x fit = record { bytes = AllBytes-drop 16 x fit.bytes; short = omega (arith, fit.short, length-drop 16 x) }

-- what an Object holds fits where the messages in it do
object_fits : (n : ℕ) (messages : Whole Held) → ObjectsFit messages n → ObjectsFit (object_with messages) n
object_fits n messages fits place x h fit o = by (has_id IID_MESSAGE x) (has_id IID_STORAGE x) o
  where
    by : (message store : Bool) → (by_interface messages message store).means place x h → BodyFits n h.body
    by true store m = fits place x h fit m
    by false true (y, m, is) = subst (λ (z : Held). BodyFits n z.body) (sym is) (file_is_store (drop 16 x) y (dropped x fit).bytes m)
    by false false m = absurd m

pub level_fits : (n at : ℕ) (s : List ℕ) (m : Meaning) → Fit s → (message_within n).means at s m → Fits n m.message
unfolding message_within
level_fits zero at s m h means = stream_fits (object_with (refused TOO_DEEP)) 0 (object_fits 0 (refused TOO_DEEP) (λ place x inner fit o. absurd o)) at s m h means
level_fits (suc n) at s m h means =
    let messages = behind_interface held_message (message_within n) in
    stream_fits (object_with messages) (suc n) (object_fits (suc n) messages (λ place x held fit o. deeper held o.0 o.2 (level_fits n (place + 16) (drop 16 x) o.0 (dropped x fit) o.1))) at s m h means
  where
    deeper : (held : Held) (t : Meaning) → held ≡ held_message t → Fits n t.message → BodyFits (suc n) held.body
    deeper held t is f = subst (λ (z : Held). BodyFits (suc n) z.body) (sym is) (f.lists, omega (arith, f.levels))

-- what a stream of bytes means is a tree
pub carrier_is_tree : (s : List ℕ) (t : Message) (passed : List Passed) → AllBytes s → length s ≤ 0x1000_0000 → TnefCarrier s t passed → IsTree t
carrier_is_tree s t passed bytes short c = let f = level_fits GREATEST_LEVEL 0 s (record { message = t; passed = passed }) (record { bytes = bytes; short = short }) c in record { lists = f.lists; levels = f.levels }
