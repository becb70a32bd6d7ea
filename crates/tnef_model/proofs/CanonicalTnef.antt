-- What is written for a message means that message.
use Rattle.std.proofs.Common.{◌≡◌, ◌⊎◌, inl, inr, ℕ, zero, suc, ◌+◌, ◌<◌, ◌≤◌, ◌^◌, Bool, true, false, cond, List, [], ◌∷◌, ◌++◌, length, take, map, reverse, replicate, refl, sym, ap, subst, ◌∙◌, arith}
use Rattle.std.specs.List.{flat_map, list_any, cons_option, prefix_len, take_while, AllByRecursion}
use Rattle.std.specs.Option.{option_map}
use Rattle.std.specs.Prelude.{◌==◌, ◌||◌, ◌&&◌, All, Option, Some, None, unwrap_or, filter, find, not, zip}
use Rattle.std.proofs.lemmas.List.{append-nil, length-append, reverse-append}
use Rattle.std.proofs.lemmas.List.Folds.{list_any-append}
use Rattle.std.proofs.lemmas.Bool.{eqb-true}
use Rattle.std.proofs.lemmas.Bool.Decides.{nat_tests}
use Rattle.carrier_model.specs.Bytes.{le16, le32, sum16, MOST_BYTES}
use Rattle.carrier_model.specs.Trail.{Fault, first_fault}
use Rattle.carrier_model.specs.Items.{AllGood}
use Rattle.tnef_model.specs.Attributes.{Attr, attr, is_level, spelling, attrs, SIGNATURE, Attrs}
use Rattle.carrier_model.specs.Grammar.{gives, and_then, Whole, inside}
use Rattle.carrier_model.specs.Keys.{Name, Key, id, named, key_cmp, is_id}
use Rattle.carrier_model.specs.Values.{Value, Prop, kind_of, prop_cmp}
use Rattle.carrier_model.specs.Sorted.{choose, with_elements}
use Rattle.carrier_model.specs.Tree.{Message, message, Attachments, no_more, attached, Body, nothing, embedded, stored, attachments_from, listed, depth, depth_in, depth_of_body, names_of, GREATEST_LEVEL}
use Rattle.carrier_model.specs.FileTrees.{Store}
use Rattle.carrier_model.specs.Trees.{IsPropList, HasPropLists, HavePropLists, BodyHasPropLists, IsTree}
use Rattle.tnef_model.specs.LegacyAttributes.{VERSION, CODE_PAGE, MESSAGE_PROPS, RECIPIENTS, RENDERING, ATTACHMENT, page, position, value_by, is_message_id, is_attachment_id, legacy_prop}
use Rattle.tnef_model.specs.TnefLists.{PropList, prop_list, recipient_lists}
use Rattle.carrier_model.specs.Meanings.{Passed, Meaning, Held, held_message, held_store}
use Rattle.tnef_model.specs.TnefMessage.{Gift, no_gift, message_list, recipients, attachment, Part, part, with_inner, inner_of, content, has_attr, place_tests, Stands, AllStand, Read, props_in, recipients_in, or_else, derived, has_key_of, joined, beside, attached_by, groups, message_by, meaning_by, StreamMeans, IID_MESSAGE, IID_STORAGE, object_with, behind_interface, refused, message_within, TnefCarrier, TnefFault}
use Rattle.carrier_model.specs.Reasons.{TOO_DEEP}
use Rattle.carrier_model.specs.Stores.{IsStore, IsStoreFile, store_bytes}
use Rattle.tnef_model.specs.TnefCanonical.{list_bytes, attribute, bits_in, integer_or, front, page_attribute, recipients_attribute, props_attribute, rendering_attribute, stream_of, attachments_bytes, content_of, tnef_of}
use Rattle.carrier_model.proofs.StoreWritten.{written_store}
use Rattle.tnef_model.proofs.TnefMessage.{message_exact}
use Rattle.tnef_model.proofs.CanonicalValues.{then_spells, seen_spells, SpellsAll, many_spells}
use Rattle.tnef_model.proofs.CanonicalLists.{each_of, with_object, list_spells, carrying_spells, shorter_object}
use Rattle.carrier_model.proofs.TreeParts.{from_listed}

-- ---- attributes one behind the other

abbrev placed_at : ℕ → List Attr → List Attr
placed_at at [] = []
placed_at at (a ∷ l) = attr a.level a.id at a.bytes ∷ placed_at (at + (11 + length a.bytes)) l

-- what an attribute is wherever it stands
record IsWritten (a : Attr) : Type 0 where
  level : is_level a.level ≡ true
  id : a.id < 2 ^ 32

spelled_again : (at : ℕ) (l : List Attr) → flat_map spelling (placed_at at l) ≡ flat_map spelling l
spelled_again at [] = refl
spelled_again at (a ∷ l) = ap (λ (z : List ℕ). spelling a ++ z) (spelled_again (at + (11 + length a.bytes)) l)

length-spelling : (a : Attr) → length a.bytes ≤ length (spelling a)
length-spelling a = omega (arith, length-append a.bytes (le16 (sum16 a.bytes)))

all_good : (at : ℕ) (l : List Attr) → AllByRecursion IsWritten l → length (flat_map spelling l) < 2 ^ 32 → AllGood attrs at (placed_at at l)
all_good at [] h lt = tt
all_good at (a ∷ l) h lt =
    let len = length-append (spelling a) (flat_map spelling l) in (
      record { level = h.0.level; id = h.0.id; few = omega (arith, len, length-spelling a); offset = refl },
      all_good (at + (11 + length a.bytes)) l h.1 (omega (arith, len)),
    )

-- the attributes of a message, without their places
abbrev recipient_attrs : List Name → List (List Prop) → List Attr
recipient_attrs names [] = []
recipient_attrs names (r ∷ others) = attr 1 RECIPIENTS 0 (le32 (length (r ∷ others)) ++ flat_map (λ props. list_bytes names props None) (r ∷ others)) ∷ []

abbrev page_bytes : List Prop → List ℕ
page_bytes props = le32 (integer_or props 0x3FFD 1252) ++ le32 0

abbrev rendering_bytes : List Prop → List ℕ
rendering_bytes props = le16 1 ++ (le32 (integer_or props 0x370B 0xFFFFFFFF) ++ replicate 8 0)

abbrev attachment_attrs : List Name → Attachments → List Attr
attachment_attrs names no_more = []
attachment_attrs names (attached props body others) = attr 2 RENDERING 0 (rendering_bytes props) ∷ (attr 2 ATTACHMENT 0 (list_bytes names props (content_of names body)) ∷ attachment_attrs names others)

abbrev own_attrs : List Name → List Prop → Attachments → List Attr
own_attrs names props attachments = attr 1 MESSAGE_PROPS 0 (list_bytes names props None) ∷ attachment_attrs names attachments

abbrev message_attrs : List Name → List Prop → List (List Prop) → Attachments → List Attr
message_attrs names props rows attachments = attr 1 VERSION 0 (le32 0x00010000) ∷ (attr 1 CODE_PAGE 0 (page_bytes props) ∷ (recipient_attrs names rows ++ own_attrs names props attachments))

attachments_spelled : (names : List Name) (attachments : Attachments) → attachments_bytes names attachments ≡ flat_map spelling (attachment_attrs names attachments)
attachments_spelled names no_more = refl
attachments_spelled names (attached props body others) =
    ap (λ (z : List ℕ). rendering_attribute props ++ (attribute 2 ATTACHMENT (list_bytes names props (content_of names body)) ++ z)) (attachments_spelled names others)

recipients_spelled : (names : List Name) (rows : List (List Prop)) (l : List Attr) → recipients_attribute names rows ++ flat_map spelling l ≡ flat_map spelling (recipient_attrs names rows ++ l)
recipients_spelled names [] l = refl
recipients_spelled names (r ∷ rows) l = refl

stream_spelled : (names : List Name) (props : List Prop) (rows : List (List Prop)) (attachments : Attachments) → stream_of names (message props rows attachments) ≡ le32 SIGNATURE ++ (le16 1 ++ flat_map spelling (message_attrs names props rows attachments))
stream_spelled names props rows attachments =
    ap (λ (z : List ℕ). front ++ (page_attribute props ++ (recipients_attribute names rows ++ (props_attribute names props ++ z)))) (attachments_spelled names attachments)
    ∙ ap (λ (z : List ℕ). front ++ (page_attribute props ++ z)) (recipients_spelled names rows (own_attrs names props attachments))

each_written : (l m : List Attr) → AllByRecursion IsWritten l → AllByRecursion IsWritten m → AllByRecursion IsWritten (l ++ m)
each_written [] m h g = g
each_written (a ∷ l) m h g = (h.0, each_written l m h.1 g)

recipients_written : (names : List Name) (rows : List (List Prop)) → AllByRecursion IsWritten (recipient_attrs names rows)
recipients_written names [] = tt
recipients_written names (r ∷ rows) = (record { level = refl; id = omega arith }, tt)

attachments_written : (names : List Name) (attachments : Attachments) → AllByRecursion IsWritten (attachment_attrs names attachments)
attachments_written names no_more = tt
attachments_written names (attached props body others) = (record { level = refl; id = omega arith }, (record { level = refl; id = omega arith }, attachments_written names others))

message_written : (names : List Name) (props : List Prop) (rows : List (List Prop)) (attachments : Attachments) → AllByRecursion IsWritten (message_attrs names props rows attachments)
message_written names props rows attachments = (
  record { level = refl; id = omega arith },
  (
    record { level = refl; id = omega arith },
    each_written (recipient_attrs names rows) (own_attrs names props attachments) (recipients_written names rows) (record { level = refl; id = omega arith }, attachments_written names attachments),
  ),
)

attrs_there : (names : List Name) (props : List Prop) (rows : List (List Prop)) (attachments : Attachments) (at : ℕ) → length (stream_of names (message props rows attachments)) < 2 ^ 32
    → Attrs at (stream_of names (message props rows attachments)) (placed_at (at + 6) (message_attrs names props rows attachments))
attrs_there names props rows attachments at lt =
    let l = message_attrs names props rows attachments in
    let e = stream_spelled names props rows attachments in
    record {
      key = le16 1;
      key_len = refl;
      parts = e ∙ ap (λ (z : List ℕ). le32 SIGNATURE ++ (le16 1 ++ z)) (sym (spelled_again (at + 6) l));
      good = all_good (at + 6) l (message_written names props rows attachments) (omega (arith, ap length e));
    }

-- ---- each attribute stands

stands : (objects : Whole Held) (before : List Attr) (a : Attr) (p : Part) (text rest : List ℕ) → first_fault (place_tests before a) ≡ None → a.bytes ≡ text ++ rest → (content objects a).spells (a.offset + 9) p text → Stands objects before a p
stands objects before a p text rest place parts spelled = record { place = place; means = (rest, record { text = text; parts = parts; spelled = spelled }) }

-- one that gives nothing but what it stands for by itself
version_content : (objects : Whole Held) (at place : ℕ) (x : List ℕ) → (content objects (attr 1 VERSION place x)).spells at (part no_gift []) []
unfolding content
version_content objects at place x = (refl, refl)

page_content : (objects : Whole Held) (at place : ℕ) (x : List ℕ) → (content objects (attr 1 CODE_PAGE place x)).spells at (part no_gift []) []
unfolding content
page_content objects at place x = (refl, refl)

rendering_content : (objects : Whole Held) (at place : ℕ) (x : List ℕ) → (content objects (attr 2 RENDERING place x)).spells at (part no_gift []) []
unfolding content
rendering_content objects at place x = (refl, refl)

props_content : (objects : Whole Held) (names : List Name) (at place : ℕ) (props : List Prop) → length names ≤ 0x8000 → IsPropList props → length (list_bytes names props None) < 2 ^ 32
    → (content objects (attr 1 MESSAGE_PROPS place (list_bytes names props None))).spells at (part (message_list props) []) (list_bytes names props None)
unfolding content
props_content objects names at place props few h lt = seen_spells (prop_list false) (λ l. part (message_list l.props) l.passed) at (with_object props None) (list_bytes names props None) (list_spells false names at props few h lt)

-- the lists of recipients
rows_spelled : (names : List Name) (rows : List (List Prop)) → length names ≤ 0x8000 → AllByRecursion IsPropList rows → length (flat_map (λ props. list_bytes names props None) rows) < 2 ^ 32
    → SpellsAll (prop_list false) (λ props. with_object props None) (λ props. list_bytes names props None) rows
rows_spelled names [] few h lt = tt
rows_spelled names (r ∷ rows) few h lt =
    let len = length-append (list_bytes names r None) (flat_map (λ props. list_bytes names props None) rows) in
    let short : length (list_bytes names r None) < 2 ^ 32 = omega (arith, len) in
    (λ at. list_spells false names at r few h.0 short, rows_spelled names rows few h.1 (omega (arith, len)))

length-rows : (names : List Name) (rows : List (List Prop)) → length rows ≤ length (flat_map (λ props. list_bytes names props None) rows)
length-rows names [] = omega arith
length-rows names (r ∷ rows) = omega (arith, length-rows names rows, length-append (list_bytes names r None) (flat_map (λ props. list_bytes names props None) rows))

rows_again : (rows : List (List Prop)) → map (λ (l : PropList). l.props) (map (λ props. with_object props None) rows) ≡ rows
rows_again [] = refl
rows_again (r ∷ rows) = ap (λ (z : List (List Prop)). r ∷ z) (rows_again rows)

rows_passed : (rows : List (List Prop)) → flat_map (λ (l : PropList). l.passed) (map (λ props. with_object props None) rows) ≡ []
rows_passed [] = refl
rows_passed (r ∷ rows) = rows_passed rows

same_part : (a b : Gift) (l m : List Passed) → a ≡ b → l ≡ m → part a l ≡ part b m
same_part a b l m e f = λ i. part (e i) (f i)

rows_content : (objects : Whole Held) (names : List Name) (at place : ℕ) (rows : List (List Prop)) → length names ≤ 0x8000 → AllByRecursion IsPropList rows → length (flat_map (λ props. list_bytes names props None) rows) < 2 ^ 32
    → let x = le32 (length rows) ++ flat_map (λ props. list_bytes names props None) rows in (content objects (attr 1 RECIPIENTS place x)).spells at (part (recipients rows) []) x
unfolding content recipient_lists
rows_content objects names at place rows few h lt =
    let write = λ (props : List Prop). list_bytes names props None in
    let view = λ (props : List Prop). with_object props None in
    let x = le32 (length rows) ++ flat_map write rows in
    let count : length rows < 2 ^ 32 = omega (arith, length-rows names rows) in
    let all : recipient_lists.spells at (map view rows) x = many_spells (prop_list false) view write rows at count (rows_spelled names rows few h lt) in
    subst (λ z. (content objects (attr 1 RECIPIENTS place x)).spells at z x) (same_part (recipients (map (λ l. l.props) (map view rows))) (recipients rows) (flat_map (λ l. l.passed) (map view rows)) [] (ap recipients (rows_again rows)) (rows_passed rows))
    (seen_spells recipient_lists (λ lists. part (recipients (map (λ l. l.props) lists)) (flat_map (λ l. l.passed) lists)) at (map view rows) x all)

-- ---- attachments

-- a message and nothing passed over
abbrev pub meaning_of : Message → Meaning
meaning_of m = record { message = m; passed = [] }

-- the Object of an attachment with a message means it, wherever it stands
abbrev pub ObjectMeans : Whole Held → List Name → Body → Type 0
ObjectMeans objects names nothing = Unit {0}
ObjectMeans objects names (embedded inner) = (place : ℕ) → objects.means place (IID_MESSAGE ++ stream_of names inner) (held_message (meaning_of inner))
ObjectMeans objects names (stored store) = (place : ℕ) → objects.means place (IID_STORAGE ++ store_bytes store) (held_store store)

abbrev pub ObjectsMean : Whole Held → List Name → Attachments → Type 0
ObjectsMean objects names no_more = Unit {0}
ObjectsMean objects names (attached props body others) = ObjectMeans objects names body × ObjectsMean objects names others

inner_spells : (objects : Whole Held) (at place : ℕ) (x : List ℕ) (m : Held) → objects.means place x m → (inner_of objects (Some (place, x))).spells at (Some m) []
inner_spells objects at place x m h = seen_spells (inside objects place x) (λ z. Some z) at m [] (h, refl)

-- a list with an Object y that means a body
object_content : (objects : Whole Held) (names : List Name) (at place : ℕ) (props : List Prop) (body : Body) (y : List ℕ) → length names ≤ 0x8000 → IsPropList props → 16 ≤ length y → length (list_bytes names props (Some y)) < 2 ^ 32 → ((z : ℕ) → objects.means z y (record { body = body; passed = [] }))
    → (content objects (attr 2 ATTACHMENT place (list_bytes names props (Some y)))).spells at (part (attachment props body) []) (list_bytes names props (Some y))
unfolding content
object_content objects names at place props body y few h long lt o =
    let x = list_bytes names props (Some y) in
    let l = carrying_spells names at props y few h long lt in
    let held : Held = record { body = body; passed = [] } in
    subst (λ z. (content objects (attr 2 ATTACHMENT place x)).spells at (part (attachment props body) []) z) (append-nil x)
    (then_spells (prop_list true) (λ l. and_then (inner_of objects l.object) (λ m. gives (with_inner l m))) at (with_object props (Some (l.0, y))) (part (attachment props body) []) x [] l.1
    (seen_spells (inner_of objects (Some (l.0, y))) (λ m. with_inner (with_object props (Some (l.0, y))) m) (at + length x) (Some held) [] (inner_spells objects (at + length x) l.0 y held (o l.0))))

attachment_content : (objects : Whole Held) (names : List Name) (at place : ℕ) (props : List Prop) (body : Body) → length names ≤ 0x8000 → IsPropList props → length (list_bytes names props (content_of names body)) < 2 ^ 32 → ObjectMeans objects names body
    → let x = list_bytes names props (content_of names body) in (content objects (attr 2 ATTACHMENT place x)).spells at (part (attachment props body) []) x
unfolding content
attachment_content objects names at place props nothing few h lt o =
    let x = list_bytes names props None in
    subst (λ z. (content objects (attr 2 ATTACHMENT place x)).spells at (part (attachment props nothing) []) z) (append-nil x)
    (then_spells (prop_list true) (λ l. and_then (inner_of objects l.object) (λ m. gives (with_inner l m))) at (with_object props None) (part (attachment props nothing) []) x [] (list_spells true names at props few h lt)
    (seen_spells (inner_of objects None) (λ m. with_inner (with_object props None) m) (at + length x) None [] (refl, refl)))
attachment_content objects names at place props (embedded inner) few h lt o =
    object_content objects names at place props (embedded inner) (IID_MESSAGE ++ stream_of names inner) few h (omega arith) lt o
attachment_content objects names at place props (stored store) few h lt o =
    object_content objects names at place props (stored store) (IID_STORAGE ++ store_bytes store) few h (omega arith) lt o

or_later : (a b : Bool) → b ≡ true → (a || b) ≡ true
or_later true b e = refl
or_later false b e = e

or_true : (b : Bool) → (b || true) ≡ true
or_true true = refl
or_true false = refl

-- the attribute that begins an attachment may stand anywhere, and the list of that attachment behind it
list_place : (before : List Attr) (place at : ℕ) (x y : List ℕ) → first_fault (place_tests (before ++ attr 2 RENDERING place x ∷ []) (attr 2 ATTACHMENT at y)) ≡ None
list_place before place at x y =
    let r = attr 2 RENDERING place x in
    let begun : list_any (has_attr RENDERING) (before ++ r ∷ []) ≡ true = list_any-append (has_attr RENDERING) before (r ∷ []) ∙ or_true (list_any (has_attr RENDERING) before) in
    let first : list_any (has_attr ATTACHMENT) (take_while (λ b. not (has_attr RENDERING b)) (reverse (before ++ r ∷ []))) ≡ false = ap (λ l. list_any (has_attr ATTACHMENT) (take_while (λ b. not (has_attr RENDERING b)) l)) (reverse-append before (r ∷ [])) in
    rw (begun, first) refl

abbrev attachment_parts : Attachments → List Part
attachment_parts no_more = []
attachment_parts (attached props body others) = part no_gift [] ∷ (part (attachment props body) [] ∷ attachment_parts others)

length-others : (names : List Name) (props : List Prop) (body : Body) (others : Attachments) → length (list_bytes names props (content_of names body)) + length (attachments_bytes names others) ≤ length (attachments_bytes names (attached props body others))
length-others names props body others =
    let x = list_bytes names props (content_of names body) in
    let a = attribute 2 ATTACHMENT x in
    let rest = attachments_bytes names others in
    omega (arith, length-append (rendering_attribute props) (a ++ rest), length-append a rest, length-append x (le16 (sum16 x)))

attachments_stand : (objects : Whole Held) (names : List Name) (few : length names ≤ 0x8000) (attachments : Attachments) (before : List Attr) (at : ℕ) → HavePropLists attachments → ObjectsMean objects names attachments → length (attachments_bytes names attachments) < 2 ^ 32
    → AllStand objects before (placed_at at (attachment_attrs names attachments)) (attachment_parts attachments)
attachments_stand objects names few no_more before at h o lt = tt
attachments_stand objects names few (attached props body others) before at h o lt =
    let x = rendering_bytes props in
    let y = list_bytes names props (content_of names body) in
    let len = length-others names props body others in
    let next = at + (11 + length x) in
    let short : length y < 2 ^ 32 = omega (arith, len) in (
      stands objects before (attr 2 RENDERING at x) (part no_gift []) [] x refl refl (rendering_content objects (at + 9) at x),
      (
        stands objects (before ++ attr 2 RENDERING at x ∷ []) (attr 2 ATTACHMENT next y) (part (attachment props body) []) y [] (list_place before at next x y) (sym (append-nil y)) (attachment_content objects names (next + 9) next props body few h.0 short o.0),
        attachments_stand objects names few others ((before ++ attr 2 RENDERING at x ∷ []) ++ attr 2 ATTACHMENT next y ∷ []) (next + (11 + length y)) h.1.1 o.1 (omega (arith, len)),
      ),
    )

-- ---- all attributes of a message stand

abbrev row_parts : List (List Prop) → List Part
row_parts [] = []
row_parts (r ∷ rows) = part (recipients (r ∷ rows)) [] ∷ []

abbrev message_parts : List Prop → List (List Prop) → Attachments → List Part
message_parts props rows attachments = part no_gift [] ∷ (part no_gift [] ∷ (row_parts rows ++ part (message_list props) [] ∷ attachment_parts attachments))

-- what the parts of a message need to be spelled
record Fits (objects : Whole Held) (names : List Name) (props : List Prop) (rows : List (List Prop)) (attachments : Attachments) : Type 0 where
  few : length names ≤ 0x8000
  list : IsPropList props
  lists : AllByRecursion IsPropList rows
  below : HavePropLists attachments
  inside : ObjectsMean objects names attachments
  short : length (list_bytes names props None) < 2 ^ 32
  short_rows : length (flat_map (λ props. list_bytes names props None) rows) < 2 ^ 32
  short_below : length (attachments_bytes names attachments) < 2 ^ 32

abbrev version_at : ℕ → Attr
version_at at = attr 1 VERSION at (le32 0x00010000)

abbrev page_at : ℕ → List Prop → Attr
page_at at props = attr 1 CODE_PAGE at (page_bytes props)

-- the list of a message and its attachments, behind attributes of which none is such a list
own_stand : (objects : Whole Held) (names : List Name) (props : List Prop) (rows : List (List Prop)) (attachments : Attachments) (before : List Attr) (at : ℕ) → Fits objects names props rows attachments
    → first_fault (place_tests before (attr 1 MESSAGE_PROPS at (list_bytes names props None))) ≡ None → AllStand objects before (placed_at at (own_attrs names props attachments)) (part (message_list props) [] ∷ attachment_parts attachments)
own_stand objects names props rows attachments before at h place =
    let x = list_bytes names props None in
    let a = attr 1 MESSAGE_PROPS at x in (
      stands objects before a (part (message_list props) []) x [] place (sym (append-nil x)) (props_content objects names (at + 9) at props h.few h.list h.short),
      attachments_stand objects names h.few attachments (before ++ a ∷ []) (at + (11 + length x)) h.below h.inside h.short_below,
    )

rows_stand : (objects : Whole Held) (names : List Name) (props : List Prop) (rows : List (List Prop)) (attachments : Attachments) (first place at : ℕ) → Fits objects names props rows attachments
    → AllStand objects (version_at first ∷ page_at place props ∷ []) (placed_at at (recipient_attrs names rows ++ own_attrs names props attachments)) (row_parts rows ++ part (message_list props) [] ∷ attachment_parts attachments)
rows_stand objects names props [] attachments first place at h = own_stand objects names props [] attachments (version_at first ∷ page_at place props ∷ []) at h refl
rows_stand objects names props (r ∷ rows) attachments first place at h =
    let x = le32 (length (r ∷ rows)) ++ flat_map (λ (props : List Prop). list_bytes names props None) (r ∷ rows) in
    let before = version_at first ∷ page_at place props ∷ [] in
    let a = attr 1 RECIPIENTS at x in (
      stands objects before a (part (recipients (r ∷ rows)) []) x [] refl (sym (append-nil x)) (rows_content objects names (at + 9) at (r ∷ rows) h.few h.lists h.short_rows),
      own_stand objects names props (r ∷ rows) attachments (before ++ a ∷ []) (at + (11 + length x)) h refl,
    )

all_stand : (objects : Whole Held) (names : List Name) (props : List Prop) (rows : List (List Prop)) (attachments : Attachments) (at : ℕ) → Fits objects names props rows attachments → AllStand objects [] (placed_at at (message_attrs names props rows attachments)) (message_parts props rows attachments)
all_stand objects names props rows attachments at h = (
  stands objects [] (version_at at) (part no_gift []) [] (le32 0x00010000) refl refl (version_content objects (at + 9) at (le32 0x00010000)),
  (
    stands objects (version_at at ∷ []) (page_at (at + 15) props) (part no_gift []) [] (page_bytes props) refl refl (page_content objects (at + 15 + 9) (at + 15) (page_bytes props)),
    rows_stand objects names props rows attachments at (at + 15) (at + 15 + 19) h,
  ),
)

-- ---- derived properties add nothing

Has : List Prop → Prop → Type 0
Has props p = has_key_of props p ≡ true

id_is : (n : ℕ) (k : Key) → is_id n k ≡ true → k ≡ id n
id_is n (id m) e = ap id (eqb-true m n e)
id_is n (named x) e = absurd cc

abbrev is_integer : ℕ → Prop → Bool
is_integer n p = is_id n p.key && (kind_of p.value == 0x0003)

same_id : (n : ℕ) → choose (key_cmp (id n) (id n)) false true false ≡ true
same_id n = grind (arith, nat_tests)

-- the list has the integer, or has none of that id and kind
found : (n : ℕ) (props : List Prop) → (find (is_integer n) props ≡ None) ⊎ ((v : Value) → has_key_of props (record { key = id n; value = v }) ≡ true)
found n [] = inl refl
found n (p ∷ props) = by (found n props) (is_id n p.key) (kind_of p.value == 0x0003) refl refl
  where
    by : (find (is_integer n) props ≡ None) ⊎ ((v : Value) → has_key_of props (record { key = id n; value = v }) ≡ true) → (a b : Bool) → is_id n p.key ≡ a → (kind_of p.value == 0x0003) ≡ b
        → (find (is_integer n) (p ∷ props) ≡ None) ⊎ ((v : Value) → has_key_of (p ∷ props) (record { key = id n; value = v }) ≡ true)
    by rest true b e f = inr (λ v. let here : choose (key_cmp p.key (id n)) false true false ≡ true = ap (λ k. choose (key_cmp k (id n)) false true false) (id_is n p.key e) ∙ same_id n in rw here refl)
    by (inl none) false b e f = inl (rw e none)
    by (inr some) false b e f = inr (λ v. or_later (choose (key_cmp p.key (id n)) false true false) (has_key_of props (record { key = id n; value = v })) (some v))

abbrev from_option : Option Prop → List Prop
from_option o = cons_option o []

all_had : (props : List Prop) (n : ℕ) (o : Option Value) → ((v : Value) → has_key_of props (record { key = id n; value = v }) ≡ true) → AllByRecursion (Has props) (from_option (option_map (λ v. record { key = id n; value = v }) o))
unfolding Has
all_had props n None h = tt
all_had props n (Some v) h = (h v, tt)

page_had : (props : List Prop) → AllByRecursion (Has props) (from_option (legacy_prop CODE_PAGE (page_bytes props)))
page_had props = by (found 0x3FFD props)
  where
    by : (find (is_integer 0x3FFD) props ≡ None) ⊎ ((v : Value) → has_key_of props (record { key = id 0x3FFD; value = v }) ≡ true) → AllByRecursion (Has props) (from_option (legacy_prop CODE_PAGE (page_bytes props)))
    by (inl none) = subst (λ o. AllByRecursion (Has props) (from_option (legacy_prop CODE_PAGE (le32 (unwrap_or (option_map (λ (p : Prop). bits_in p.value) o) 1252) ++ le32 0)))) (sym none) tt
    by (inr some) = all_had props 0x3FFD (value_by page (page_bytes props)) some

rendering_had : (props : List Prop) → AllByRecursion (Has props) (from_option (legacy_prop RENDERING (rendering_bytes props)))
rendering_had props = by (found 0x370B props)
  where
    by : (find (is_integer 0x370B) props ≡ None) ⊎ ((v : Value) → has_key_of props (record { key = id 0x370B; value = v }) ≡ true) → AllByRecursion (Has props) (from_option (legacy_prop RENDERING (rendering_bytes props)))
    by (inl none) = subst (λ o. AllByRecursion (Has props) (from_option (legacy_prop RENDERING (le16 1 ++ (le32 (unwrap_or (option_map (λ (p : Prop). bits_in p.value) o) 0xFFFFFFFF) ++ replicate 8 0))))) (sym none) tt
    by (inr some) = all_had props 0x370B (value_by position (rendering_bytes props)) some

none_left : (props more : List Prop) → AllByRecursion (Has props) more → filter (λ p. not (has_key_of props p)) more ≡ []
unfolding Has
none_left props [] h = refl
none_left props (p ∷ more) h = rw h.0 (none_left props more h.1)

nothing_joins : (props more : List Prop) → AllByRecursion (Has props) more → joined props more ≡ props
nothing_joins props more h = ap (with_elements prop_cmp props) (none_left props more h)

each_filtered : (P : Prop → Type 0) (t : Prop → Bool) (l : List Prop) → AllByRecursion P l → AllByRecursion P (filter t l)
each_filtered P t [] h = tt
each_filtered P t (p ∷ l) h = by (t p) (each_filtered P t l h.1)
  where
    by : (b : Bool) → AllByRecursion P (filter t l) → AllByRecursion P (cond b (p ∷ filter t l) (filter t l))
    by true rest = (h.0, rest)
    by false rest = rest

each_beside : (P : Prop → Type 0) (body : Body) (l : List Prop) → AllByRecursion P l → AllByRecursion P (beside body l)
each_beside P nothing l h = h
each_beside P (embedded inner) l h = each_filtered P (λ p. not (is_id 0x3701 p.key)) l h
each_beside P (stored store) l h = each_filtered P (λ p. not (is_id 0x3701 p.key)) l h

-- ---- what the attributes and their parts mean

abbrev attachment_reads : ℕ → List Name → Attachments → List Read
attachment_reads at names attachments = zip (placed_at at (attachment_attrs names attachments)) (attachment_parts attachments)

own_none : (at : ℕ) (names : List Name) (attachments : Attachments) → filter (λ (r : Read). is_message_id r.0.id) (attachment_reads at names attachments) ≡ []
own_none at names no_more = refl
own_none at names (attached props body others) = own_none (at + (11 + length (rendering_bytes props)) + (11 + length (list_bytes names props (content_of names body)))) names others

all_theirs : (at : ℕ) (names : List Name) (attachments : Attachments) → filter (λ (r : Read). is_attachment_id r.0.id) (attachment_reads at names attachments) ≡ attachment_reads at names attachments
all_theirs at names no_more = refl
all_theirs at names (attached props body others) =
    let x = rendering_bytes props in
    let y = list_bytes names props (content_of names body) in
    let next = at + (11 + length x) in
    ap (λ (l : List Read). (attr 2 RENDERING at x, part no_gift []) ∷ ((attr 2 ATTACHMENT next y, part (attachment props body) []) ∷ l)) (all_theirs (next + (11 + length y)) names others)

none_passed : (at : ℕ) (names : List Name) (attachments : Attachments) → flat_map (λ (r : Read). r.1.passed) (attachment_reads at names attachments) ≡ []
none_passed at names no_more = refl
none_passed at names (attached props body others) = none_passed (at + (11 + length (rendering_bytes props)) + (11 + length (list_bytes names props (content_of names body)))) names others

-- the next attachment begins at once
next_begins : (at : ℕ) (names : List Name) (attachments : Attachments) → prefix_len (λ (o : Read). not (has_attr RENDERING o.0)) (attachment_reads at names attachments) ≡ 0
next_begins at names no_more = refl
next_begins at names (attached props body others) = refl

body_again : (body : Body) → or_else nothing (or_else body nothing) ≡ body
body_again nothing = refl
body_again (embedded inner) = refl
body_again (stored store) = refl

one_attachment : (place at : ℕ) (props : List Prop) (body : Body) (y : List ℕ) → attached_by ((attr 2 RENDERING place (rendering_bytes props), part no_gift []) ∷ ((attr 2 ATTACHMENT at y, part (attachment props body) []) ∷ [])) ≡ (props, body)
one_attachment place at props body y =
    let own : List Prop = from_option (legacy_prop RENDERING (rendering_bytes props)) in
    let b : Body = or_else nothing (or_else body nothing) in
    let joins : joined (props ++ []) (beside b own) ≡ props = ap (λ l. joined l (beside b own)) (append-nil props) ∙ nothing_joins props (beside b own) (each_beside (Has props) b own (rendering_had props)) in
    λ i. (joins i, body_again body i)

grouped : (at : ℕ) (names : List Name) (attachments : Attachments) → map attached_by (groups (attachment_reads at names attachments)) ≡ listed attachments
grouped at names no_more = refl
grouped at names (attached props body others) =
    let x = rendering_bytes props in
    let y = list_bytes names props (content_of names body) in
    let next = at + (11 + length x) in
    let r : Read = (attr 2 RENDERING at x, part no_gift []) in
    let a : Read = (attr 2 ATTACHMENT next y, part (attachment props body) []) in
    let rest = attachment_reads (next + (11 + length y)) names others in
    let alone : map attached_by ((r ∷ take (1 + prefix_len (λ (o : Read). not (has_attr RENDERING o.0)) rest) (a ∷ rest)) ∷ groups rest) ≡ map attached_by ((r ∷ (a ∷ [])) ∷ groups rest) =
    ap (λ n. map attached_by ((r ∷ take (1 + n) (a ∷ rest)) ∷ groups rest)) (next_begins (next + (11 + length y)) names others) in
    alone ∙ (λ i. one_attachment at next props body y i ∷ grouped (next + (11 + length y)) names others i)

theirs_again : (at : ℕ) (names : List Name) (attachments : Attachments) → attachments_from (map attached_by (groups (filter (λ (r : Read). is_attachment_id r.0.id) (attachment_reads at names attachments)))) ≡ attachments
theirs_again at names attachments = ap (λ l. attachments_from (map attached_by (groups l))) (all_theirs at names attachments) ∙ (ap attachments_from (grouped at names attachments) ∙ from_listed attachments)

message_reads : (at : ℕ) (names : List Name) (props : List Prop) (rows : List (List Prop)) (attachments : Attachments) → meaning_by (zip (placed_at at (message_attrs names props rows attachments)) (message_parts props rows attachments)) ≡ meaning_of (message props rows attachments)
message_reads at names props [] attachments =
    let place = at + 15 + 19 in
    let x = list_bytes names props None in
    let theirs = attachment_reads (place + (11 + length x)) names attachments in
    let front : List Read = (version_at at, part no_gift []) ∷ ((page_at (at + 15) props, part no_gift []) ∷ ((attr 1 MESSAGE_PROPS place x, part (message_list props) []) ∷ [])) in
    let own : filter (λ (r : Read). is_message_id r.0.id) (front ++ theirs) ≡ front = ap (λ l. front ++ l) (own_none (place + (11 + length x)) names attachments) in
    let props_again : joined (flat_map (λ (r : Read). props_in r.1.gift) front) (derived front) ≡ props = ap (λ l. joined l (derived front)) (append-nil props) ∙ nothing_joins props (derived front) (page_had props) in
    let parts : message (joined (flat_map (λ (r : Read). props_in r.1.gift) front) (derived front)) [] (attachments_from (map attached_by (groups (filter (λ (r : Read). is_attachment_id r.0.id) theirs)))) ≡ message props [] attachments =
    λ i. message (props_again i) [] (theirs_again (place + (11 + length x)) names attachments i) in
    let m : message_by (front ++ theirs) ≡ message props [] attachments =
    ap (λ (own : List Read). message (joined (flat_map (λ (r : Read). props_in r.1.gift) own) (derived own)) (flat_map (λ (r : Read). recipients_in r.1.gift) own) (attachments_from (map attached_by (groups (filter (λ (r : Read). is_attachment_id r.0.id) (front ++ theirs)))))) own ∙ parts in
    λ i. record { message = m i; passed = none_passed (place + (11 + length x)) names attachments i }
message_reads at names props (r ∷ rows) attachments =
    let z = le32 (length (r ∷ rows)) ++ flat_map (λ (props : List Prop). list_bytes names props None) (r ∷ rows) in
    let first = at + 15 + 19 in
    let place = first + (11 + length z) in
    let x = list_bytes names props None in
    let theirs = attachment_reads (place + (11 + length x)) names attachments in
    let front : List Read = (version_at at, part no_gift []) ∷ ((page_at (at + 15) props, part no_gift []) ∷ ((attr 1 RECIPIENTS first z, part (recipients (r ∷ rows)) []) ∷ ((attr 1 MESSAGE_PROPS place x, part (message_list props) []) ∷ []))) in
    let own : filter (λ (r : Read). is_message_id r.0.id) (front ++ theirs) ≡ front = ap (λ l. front ++ l) (own_none (place + (11 + length x)) names attachments) in
    let props_again : joined (flat_map (λ (r : Read). props_in r.1.gift) front) (derived front) ≡ props = ap (λ l. joined l (derived front)) (append-nil props) ∙ nothing_joins props (derived front) (page_had props) in
    let parts : message (joined (flat_map (λ (r : Read). props_in r.1.gift) front) (derived front)) ((r ∷ rows) ++ []) (attachments_from (map attached_by (groups (filter (λ (r : Read). is_attachment_id r.0.id) theirs)))) ≡ message props (r ∷ rows) attachments =
    λ i. message (props_again i) (append-nil (r ∷ rows) i) (theirs_again (place + (11 + length x)) names attachments i) in
    let m : message_by (front ++ theirs) ≡ message props (r ∷ rows) attachments =
    ap (λ (own : List Read). message (joined (flat_map (λ (r : Read). props_in r.1.gift) own) (derived own)) (flat_map (λ (r : Read). recipients_in r.1.gift) own) (attachments_from (map attached_by (groups (filter (λ (r : Read). is_attachment_id r.0.id) (front ++ theirs)))))) own ∙ parts in
    λ i. record { message = m i; passed = none_passed (place + (11 + length x)) names attachments i }

stream_means : (objects : Whole Held) (names : List Name) (props : List Prop) (rows : List (List Prop)) (attachments : Attachments) (at : ℕ) → Fits objects names props rows attachments → length (stream_of names (message props rows attachments)) < 2 ^ 32
    → StreamMeans objects at (stream_of names (message props rows attachments)) (meaning_of (message props rows attachments))
stream_means objects names props rows attachments at h lt = record {
  attrs = placed_at (at + 6) (message_attrs names props rows attachments);
  there = attrs_there names props rows attachments at lt;
  parts = message_parts props rows attachments;
  stand = all_stand objects names props rows attachments (at + 6) h;
  meaning = sym (message_reads (at + 6) names props rows attachments);
}

-- ---- a tree, level by level

abbrev objects_of : ℕ → Whole Held
objects_of zero = object_with (refused TOO_DEEP)
objects_of (suc n) = object_with (behind_interface held_message (message_within n))

at_level : (n at : ℕ) (bytes : List ℕ) (m : Meaning) → StreamMeans (objects_of n) at bytes m → (message_within n).means at bytes m
unfolding message_within
at_level zero at bytes m h = h
at_level (suc n) at bytes m h = h

each_list : (rows : List (List Prop)) → All IsPropList rows → AllByRecursion IsPropList rows
each_list rows h = each_of IsPropList rows h

-- each part is shorter than the stream
record Shorter (names : List Name) (props : List Prop) (rows : List (List Prop)) (attachments : Attachments) : Type 0 where
  list : length (list_bytes names props None) ≤ length (stream_of names (message props rows attachments))
  lists : length (flat_map (λ props. list_bytes names props None) rows) ≤ length (stream_of names (message props rows attachments))
  below : length (attachments_bytes names attachments) ≤ length (stream_of names (message props rows attachments))

length-recipients : (names : List Name) (rows : List (List Prop)) → length (flat_map (λ props. list_bytes names props None) rows) ≤ length (recipients_attribute names rows)
length-recipients names [] = omega arith
length-recipients names (r ∷ rows) =
    let x = flat_map (λ (props : List Prop). list_bytes names props None) (r ∷ rows) in
    omega (arith, length-append x (le16 (sum16 (le32 (length (r ∷ rows)) ++ x))))

shorter : (names : List Name) (props : List Prop) (rows : List (List Prop)) (attachments : Attachments) → Shorter names props rows attachments
shorter names props rows attachments =
    let x = list_bytes names props None in
    let a = recipients_attribute names rows in
    let b = props_attribute names props in
    let c = attachments_bytes names attachments in
    let whole = length-append a (b ++ c) in
    let tail = length-append b c in
    let own : length x ≤ length b = omega (arith, length-append x (le16 (sum16 x))) in
    let rs = length-recipients names rows in
    record { list = omega (arith, whole, tail, own); lists = omega (arith, whole, tail, rs); below = omega (arith, whole, tail) }

store_means : (names : List Name) (store : Store) (props : List Prop) → IsPropList props → IsStore store → length (list_bytes names props (content_of names (stored store))) ≤ MOST_BYTES → IsStoreFile (store_bytes store) store
store_means names store props l h le = written_store store h (omega (arith, shorter_object names props (IID_STORAGE ++ store_bytes store) l, le))

mutual
  message_means : (names : List Name) (few : length names ≤ 0x8000) (m : Message) (n at : ℕ) → HasPropLists m → depth m ≤ n → length (stream_of names m) ≤ MOST_BYTES → (message_within n).means at (stream_of names m) (meaning_of m)
  message_means names few (message props rows attachments) n at h deep lt =
      let s = shorter names props rows attachments in
      let below : length (attachments_bytes names attachments) ≤ MOST_BYTES = omega (arith, s.below, lt) in
      let fits : Fits (objects_of n) names props rows attachments = record {
        few = few;
        list = h.0;
        lists = each_list rows h.1.0;
        below = h.1.1;
        inside = objects_mean names few attachments n h.1.1 deep below;
        short = omega (arith, s.list, lt);
        short_rows = omega (arith, s.lists, lt);
        short_below = omega (arith, below);
      } in
      at_level n at (stream_of names (message props rows attachments)) (meaning_of (message props rows attachments)) (stream_means (objects_of n) names props rows attachments at fits (omega (arith, lt)))

  objects_mean : (names : List Name) (few : length names ≤ 0x8000) (attachments : Attachments) (n : ℕ) → HavePropLists attachments → depth_in attachments ≤ n → length (attachments_bytes names attachments) ≤ MOST_BYTES → ObjectsMean (objects_of n) names attachments
  objects_mean names few no_more n h deep lt = tt
  objects_mean names few (attached props body others) n h deep lt =
      let len = length-others names props body others in
      let here : length (list_bytes names props (content_of names body)) ≤ MOST_BYTES = omega (arith, len, lt) in
      let rest : length (attachments_bytes names others) ≤ MOST_BYTES = omega (arith, len, lt) in
      (object_means names few body n props h.0 h.1.0 (omega (arith, deep)) here, objects_mean names few others n h.1.1 (omega (arith, deep)) rest)

  object_means : (names : List Name) (few : length names ≤ 0x8000) (body : Body) (n : ℕ) (props : List Prop) → IsPropList props → BodyHasPropLists body → depth_of_body body ≤ n → length (list_bytes names props (content_of names body)) ≤ MOST_BYTES → ObjectMeans (objects_of n) names body
  object_means names few nothing n props l h deep lt = tt
  object_means names few (embedded inner) zero props l h deep lt = absurd (omega (arith, deep))
  object_means names few (embedded inner) (suc n) props l h deep lt =
      let x = IID_MESSAGE ++ stream_of names inner in
      let len = shorter_object names props x l in
      let short : length (stream_of names inner) ≤ MOST_BYTES = omega (arith, len, lt) in
      λ place. (meaning_of inner, message_means names few inner n (place + 16) h (omega (arith, deep)) short, refl)
  object_means names few (stored store) zero props l h deep lt = λ place. (store, store_means names store props l h lt, refl)
  object_means names few (stored store) (suc n) props l h deep lt = λ place. (store, store_means names store props l h lt, refl)

-- the canonical stream of a tree means that tree, and nothing is passed over
pub tree_means : (t : Message) → IsTree t → length (names_of t) ≤ 32000 → length (tnef_of t) ≤ MOST_BYTES → TnefCarrier (tnef_of t) t []
tree_means t h few lt = message_means (names_of t) (omega arith) t GREATEST_LEVEL 0 h.lists h.levels lt

-- and no other tree
pub tree_alone : (t other : Message) (passed : List Passed) → IsTree t → length (names_of t) ≤ 32000 → length (tnef_of t) ≤ MOST_BYTES → TnefCarrier (tnef_of t) other passed → (other ≡ t) × (passed ≡ [])
tree_alone t other passed h few lt c =
    let same = (message_exact GREATEST_LEVEL 0 (tnef_of t)).one (meaning_of t) (record { message = other; passed = passed }) (tree_means t h few lt) c in
    (ap (λ m. m.message) same, ap (λ m. m.passed) same)

pub tree_faultless : (t : Message) (g : Fault) → IsTree t → length (names_of t) ≤ 32000 → length (tnef_of t) ≤ MOST_BYTES → TnefFault (tnef_of t) g → ⊥
tree_faultless t g h few lt f = (message_exact GREATEST_LEVEL 0 (tnef_of t)).apart (meaning_of t) g (tree_means t h few lt) f
