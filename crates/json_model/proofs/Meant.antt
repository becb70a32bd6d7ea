-- The value that is written for a tree means that tree.
use Rattle.std.proofs.Common.{◌≡◌, ℕ, zero, suc, inl, inr, is_some, ◌+◌, ◌-◌, ◌<◌, ◌^◌, ◌%◌, List, [], ◌∷◌, ◌++◌, length, map, Bool, true, false, cond, Option, Some, None, refl, ap, sym, ◌∙◌, arith, true≢false, subst}
use Rattle.std.specs.Prelude.{◌&&◌, ◌==◌, IsTrue, unwrap_or, All}
use Rattle.std.proofs.lemmas.Bool.Decides.{nat_tests}
use Rattle.std.specs.Char.Utf16.{has_unpaired_surrogate}
use Rattle.std.specs.List.{AllByRecursion}
use Rattle.serde_json.specs.Data.{Data, string, array}
use Rattle.serde_json.specs.View.{items_of}
use Rattle.carrier_model.specs.Bytes.{units_of, unit_bytes}
use Rattle.carrier_model.specs.FileTrees.{FileTree, no_file, stream, storage, Store}
use Rattle.carrier_model.specs.Keys.{Key, id, named, numbered, texted}
use Rattle.carrier_model.specs.KindNames.{kind_name}
use Rattle.carrier_model.specs.Lists.{looked_up}
use Rattle.std.specs.List.{list_all}
use Rattle.carrier_model.specs.Stores.{IsStore, AreMembers}
use Rattle.carrier_model.specs.Tree.{Message, message, Attachments, no_more, attached, nothing, embedded, stored}
use Rattle.carrier_model.specs.Trees.{IsTree, IsPropList, KeyHasUnits, HasPropLists, HavePropLists}
use Rattle.carrier_model.specs.Values.{Value, number, guid, bytes, numbers, guids, parts, Prop, kind_of, number_widths, numbers_widths, is_bytes_kind, IsValue, IsProp, IsBytes}
use Rattle.carrier_model.proofs.Units.{units_again}
use Rattle.json_model.specs.ByteTrees.{AreBytes, KeyHasBytes, ValueHasBytes, PropHasBytes, PropsHaveBytes, FilesHaveBytes, HasBytes, HaveBytes}
use Rattle.json_model.specs.Digits.{hex}
use Rattle.json_model.specs.JsonMeanings.{HexMeans, TextMeans, NameMeans, NumberMeans, ItemsMean, ArrayMeans, KeyMeans, KindMeans, BytesMean, ValueMeans, PropMeans, PropsMean, PathMeans, EntryMeans, StoreMeans, MessageMeans, AttachmentsMean, JsonMeans}
use Rattle.json_model.specs.MessageForms.{json_of, attachments_json}
use Rattle.json_model.specs.Properties.{listed_json, number_json, hex_json, key_json, kind_json, bytes_json, value_json, prop_json, props_json}
use Rattle.json_model.specs.StoreForms.{Entry, storage_entry, stream_entry, path_json, entry_json, entries_below, store_json}
use Rattle.json_model.specs.Texts.{text_json, name_json, utf8_of}
use Rattle.json_model.proofs.WellFormed.{text_again}

-- ---- lists

items_meant : {A : Type 0} (means : Data → A → Type 0) (f : A → Data) (P : A → Type 0) → ((x : A) → P x → means (f x) x) → (xs : List A) → AllByRecursion P xs → ItemsMean means (items_of (map f xs)) xs
items_meant means f P each [] h = tt
items_meant means f P each (x ∷ xs) h = (each x h.0, items_meant means f P each xs h.1)

list_meant : {A : Type 0} (means : Data → A → Type 0) (f : A → Data) (P : A → Type 0) → ((x : A) → P x → means (f x) x) → (xs : List A) → AllByRecursion P xs → ArrayMeans means (listed_json (map f xs)) xs
list_meant means f P each xs h = (items_of (map f xs), refl, items_meant means f P each xs h)

-- what holds of all, one by one
pub by_turns : {A : Type 0} (P : A → Type 0) (xs : List A) → All P xs → AllByRecursion P xs
by_turns P [] h = tt
by_turns P (x ∷ xs) h = (h 0 x (omega arith), by_turns P xs (λ k d lt. h (suc k) d (omega (arith, lt))))

both_turns : {A : Type 0} (P Q : A → Type 0) (xs : List A) → AllByRecursion P xs → AllByRecursion Q xs → AllByRecursion (λ x. P x × Q x) xs
both_turns P Q [] h k = tt
both_turns P Q (x ∷ xs) h k = ((h.0, k.0), both_turns P Q xs h.1 k.1)

-- ---- texts

text_at : (x : List ℕ) (b : Bool) → has_unpaired_surrogate (units_of x) ≡ b → AreBytes x → length x % 2 ≡ 0 → TextMeans (text_json x) x
text_at x true e h even = rw e (inr (refl, (string (hex x), refl, (refl, h)), even))
text_at x false e h even = rw e (inl (utf8_of (units_of x), refl, sym (text_again x h even e)))

text_meant : (x : List ℕ) → AreBytes x → length x % 2 ≡ 0 → TextMeans (text_json x) x
text_meant x h even = text_at x (has_unpaired_surrogate (units_of x)) refl h even

pub unit_bytes_are : (units : List ℕ) → AreBytes (unit_bytes units)
unit_bytes_are [] = tt
unit_bytes_are (u ∷ units) = (omega arith, (omega arith, unit_bytes_are units))

unit_bytes_even : (units : List ℕ) → length (unit_bytes units) % 2 ≡ 0
unit_bytes_even [] = refl
unit_bytes_even (u ∷ units) = omega (arith, unit_bytes_even units)

name_meant : (units : List ℕ) → All (λ u. u < 2 ^ 16) units → NameMeans (name_json units) units
name_meant units small = (unit_bytes units, text_meant (unit_bytes units) (unit_bytes_are units) (unit_bytes_even units), sym (units_again units small))

-- ---- properties

key_meant : (key : Key) → KeyHasBytes key → KeyHasUnits key → KeyMeans (key_json key) key
key_meant (id n) h small = refl
key_meant (named (numbered set n)) h small = (refl, (number_json n, refl, refl), (hex_json set, refl, (refl, h)))
key_meant (named (texted set units)) h small = (refl, (hex_json set, refl, (refl, h)), (name_json units, refl, name_meant units small))

bytes_at : (n : ℕ) (x : List ℕ) (b : Bool) → (n == 0x001F) ≡ b → AreBytes x → IsBytes n x → BytesMean n (bytes_json n x) x
bytes_at n x true e h is = let same : n ≡ 0x001F = grind (arith, nat_tests) in rw e (inl (same, text_meant x h (is.even same)))
bytes_at n x false e h is = rw e (inr (λ same. true≢false (ap (λ m. m == 0x001F) (sym same) ∙ e), (refl, h)))

bytes_meant : (n : ℕ) (x : List ℕ) → AreBytes x × IsBytes n x → BytesMean n (bytes_json n x) x
bytes_meant n x h = bytes_at n x (n == 0x001F) refl h.0 h.1

numbers_meant : (list : List ℕ) → AllByRecursion (λ n. Unit {0}) list
numbers_meant [] = tt
numbers_meant (n ∷ list) = (tt, numbers_meant list)

value_meant : (value : Value) → ValueHasBytes value → IsValue value → ValueMeans (value_json value) value
value_meant (number n bits) h is = refl
value_meant (guid set) h is = (refl, h)
value_meant (bytes n x) h is = bytes_meant n x (h, is)
value_meant (numbers n list) h is = list_meant NumberMeans number_json (λ n. Unit {0}) (λ n k. refl) list (numbers_meant list)
value_meant (guids list) h is = list_meant HexMeans hex_json AreBytes (λ x k. (refl, k)) list h
value_meant (parts n list) h is = list_meant (BytesMean (n - 0x1000)) (bytes_json (n - 0x1000)) (λ x. AreBytes x × IsBytes (n - 0x1000) x) (bytes_meant (n - 0x1000)) list (both_turns AreBytes (IsBytes (n - 0x1000)) list h (by_turns (IsBytes (n - 0x1000)) list is.0))

-- ---- kinds by their names

known_at : (row n : ℕ) (same : Bool) → (row == n) ≡ same → is_some (kind_name row) ≡ true → (same ≡ false → is_some (kind_name n) ≡ true) → is_some (kind_name n) ≡ true
known_at row n true e h other = let is : row ≡ n = grind (arith, nat_tests) in ap (λ m. is_some (kind_name m)) (sym is) ∙ h
known_at row n false e h other = other refl

and_true : (a b : Bool) → (a && b) ≡ true → (a ≡ true) × (b ≡ true)
and_true true b h = (refl, h)
and_true false b h = absurd (true≢false (sym h))

known_among : (rows : List (ℕ × ℕ)) → list_all (λ (row : ℕ × ℕ). is_some (kind_name row.0)) rows ≡ true → (n : ℕ) → 0 < unwrap_or (looked_up rows n) 0 → is_some (kind_name n) ≡ true
known_among [] all n h = absurd (omega (arith, h))
known_among (row ∷ rows) all n h =
    let both = and_true (is_some (kind_name row.0)) (list_all (λ (r : ℕ × ℕ). is_some (kind_name r.0)) rows) all in
    known_at row.0 n (row.0 == n) refl both.0 (λ e. known_among rows both.1 n (subst (λ b. 0 < unwrap_or (cond b (Some row.1) (looked_up rows n)) 0) e h))

bytes_known : (n m off : ℕ) (a b c : Bool) → (n == 0x001E) ≡ a → (n == 0x001F) ≡ b → (n == 0x0102) ≡ c → IsTrue (is_bytes_kind n) → m ≡ n + off
    → is_some (kind_name (0x001E + off)) ≡ true → is_some (kind_name (0x001F + off)) ≡ true → is_some (kind_name (0x0102 + off)) ≡ true → is_some (kind_name m) ≡ true
bytes_known n m off true b c ea eb ec h e x y z = let same : m ≡ 0x001E + off = let is : n ≡ 0x001E = grind (arith, nat_tests) in omega arith in ap (λ k. is_some (kind_name k)) same ∙ x
bytes_known n m off false true c ea eb ec h e x y z = let same : m ≡ 0x001F + off = let is : n ≡ 0x001F = grind (arith, nat_tests) in omega arith in ap (λ k. is_some (kind_name k)) same ∙ y
bytes_known n m off false false true ea eb ec h e x y z = let same : m ≡ 0x0102 + off = let is : n ≡ 0x0102 = grind (arith, nat_tests) in omega arith in ap (λ k. is_some (kind_name k)) same ∙ z
bytes_known n m off false false false ea eb ec h e x y z = absurd (true≢false (sym h ∙ rw (ea, eb, ec) refl))

named_kind : (n : ℕ) (o : Option (List ℕ)) → kind_name n ≡ o → is_some o ≡ true → KindMeans (kind_json n) n
named_kind n None e h = absurd (true≢false (sym h))
named_kind n (Some name) e h = (name, ap (λ o. string (unwrap_or o [])) e, e)

kind_meant : (value : Value) → IsValue value → KindMeans (kind_json (kind_of value)) (kind_of value)
kind_meant (number n bits) is = named_kind n (kind_name n) refl (known_among number_widths refl n is.1)
kind_meant (guid set) is = named_kind 0x0048 (kind_name 0x0048) refl refl
kind_meant (bytes n x) is = named_kind n (kind_name n) refl (bytes_known n n 0 (n == 0x001E) (n == 0x001F) (n == 0x0102) refl refl refl is.kind_is (omega arith) refl refl refl)
kind_meant (numbers n list) is = named_kind n (kind_name n) refl (known_among numbers_widths refl n is.1)
kind_meant (guids list) is = named_kind 0x1048 (kind_name 0x1048) refl refl
kind_meant (parts n list) is =
    let m = n - 0x1000 in
    named_kind n (kind_name n) refl (bytes_known m n 0x1000 (m == 0x001E) (m == 0x001F) (m == 0x0102) refl refl refl is.2 (omega (arith, is.1)) refl refl refl)

GoodProp : Prop → Type 0
GoodProp p = PropHasBytes p × (IsProp p × KeyHasUnits p.key)

prop_meant : (p : Prop) → GoodProp p → PropMeans (prop_json p) p
unfolding GoodProp
prop_meant p h = record {
  members = refl;
  key = (key_json p.key, refl, key_meant p.key h.0.0 h.1.1);
  kind = (kind_json (kind_of p.value), refl, kind_meant p.value h.1.0.value);
  value = (value_json p.value, refl, value_meant p.value h.0.1 h.1.0.value);
}

GoodProps : List Prop → Type 0
GoodProps props = PropsHaveBytes props × IsPropList props

props_meant : (props : List Prop) → GoodProps props → PropsMean (props_json props) props
unfolding GoodProps GoodProp
props_meant props h =
    list_meant PropMeans prop_json GoodProp prop_meant props (both_turns PropHasBytes (λ p. IsProp p × KeyHasUnits p.key) props h.0
    (both_turns IsProp (λ p. KeyHasUnits p.key) props (by_turns IsProp props h.1.each) (by_turns (λ p. KeyHasUnits p.key) props h.1.units)))

-- ---- stores

pub turns_all : (units : List ℕ) → AllByRecursion (λ u. u < 2 ^ 16) units → All (λ u. u < 2 ^ 16) units
turns_all [] h k d lt = absurd (omega (arith, lt))
turns_all (u ∷ units) h zero d lt = h.0
turns_all (u ∷ units) h (suc k) d lt = turns_all units h.1 k d (omega (arith, lt))

SmallName : List ℕ → Type 0
SmallName name = AllByRecursion (λ u. u < 2 ^ 16) name

GoodEntry : Entry → Type 0
GoodEntry (storage_entry path class) = AllByRecursion SmallName path × AreBytes class
GoodEntry (stream_entry path x) = AllByRecursion SmallName path × AreBytes x

small_name_meant : (name : List ℕ) → SmallName name → NameMeans (name_json name) name
unfolding SmallName
small_name_meant name h = name_meant name (turns_all name h)

path_meant : (path : List (List ℕ)) → AllByRecursion SmallName path → PathMeans (path_json path) path
path_meant path h = list_meant NameMeans name_json SmallName small_name_meant path h

entry_meant : (e : Entry) → GoodEntry e → EntryMeans (entry_json e) e
unfolding GoodEntry
entry_meant (storage_entry path class) h = (refl, (hex_json class, refl, (refl, h.1)), (path_json path, refl, path_meant path h.0))
entry_meant (stream_entry path x) h = (refl, (hex_json x, refl, (refl, h.1)), (path_json path, refl, path_meant path h.0))

pub turns_joined : {A : Type 0} (P : A → Type 0) (xs ys : List A) → AllByRecursion P xs → AllByRecursion P ys → AllByRecursion P (xs ++ ys)
turns_joined P [] ys h k = k
turns_joined P (x ∷ xs) ys h k = (h.0, turns_joined P xs ys h.1 k)

entries_good : (above : List (List ℕ)) (f : FileTree) → AllByRecursion SmallName above → FilesHaveBytes f → AreMembers f → AllByRecursion GoodEntry (entries_below above f)
unfolding GoodEntry SmallName
entries_good above no_file small h is = tt
entries_good above (stream name x others) small h is =
    ((turns_joined SmallName above (name ∷ []) small (is.0.units, tt), h.0), entries_good above others small h.1 is.1)
entries_good above (storage name class inside others) small h is =
    let path = turns_joined SmallName above (name ∷ []) small (is.0.units, tt) in
    ((path, h.0), turns_joined GoodEntry (entries_below (above ++ name ∷ []) inside) (entries_below above others) (entries_good (above ++ name ∷ []) inside path h.1 is.3) (entries_good above others small h.2 is.4))

store_meant : (s : Store) → AreBytes s.class → FilesHaveBytes s.members → IsStore s → StoreMeans (store_json s) s
store_meant s h k is =
    let list = entries_below [] s.members in
    record {
      members = refl;
      class = (hex_json s.class, refl, (refl, h));
      list = (listed_json (map entry_json list), refl, list_meant EntryMeans entry_json GoodEntry entry_meant list (entries_good [] s.members tt k is.members));
    }

-- ---- messages

recipients_good : (recipients : List (List Prop)) → AllByRecursion PropsHaveBytes recipients → All IsPropList recipients → AllByRecursion GoodProps recipients
unfolding GoodProps
recipients_good recipients h is = both_turns PropsHaveBytes IsPropList recipients h (by_turns IsPropList recipients is)

mutual
  unfolding GoodProps

  pub message_meant : (t : Message) → HasBytes t → HasPropLists t → MessageMeans (json_of t) t
  message_meant (message props recipients attachments) h is = (
    refl,
    (array (attachments_json attachments), refl, (attachments_json attachments, refl, attachments_meant attachments h.2 is.1.1)),
    (props_json props, refl, props_meant props (h.0, is.0)),
    (listed_json (map props_json recipients), refl, list_meant PropsMean props_json GoodProps props_meant recipients (recipients_good recipients h.1 is.1.0)),
  )

  attachments_meant : (a : Attachments) → HaveBytes a → HavePropLists a → AttachmentsMean (attachments_json a) a
  attachments_meant no_more h is = tt
  attachments_meant (attached props nothing others) h is =
      ((props_json props, refl, props_meant props (h.0, is.0)), refl, attachments_meant others h.2 is.1.1)
  attachments_meant (attached props (embedded inner) others) h is =
      ((props_json props, refl, props_meant props (h.0, is.0)), (refl, (json_of inner, refl, message_meant inner h.1 is.1.0)), attachments_meant others h.2 is.1.1)
  attachments_meant (attached props (stored store) others) h is =
      ((props_json props, refl, props_meant props (h.0, is.0)), (refl, (store_json store, refl, store_meant store h.1.0 h.1.1 is.1.0)), attachments_meant others h.2 is.1.1)

pub json_meant : (t : Message) → HasBytes t → IsTree t → JsonMeans (json_of t) t
json_meant t h is = record { form = message_meant t h is.lists; tree = is }
