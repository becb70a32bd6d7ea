-- The text of a tree is UTF-8, and has the tokens of the tree's value.
use Rattle.std.proofs.Common.{◌≡◌, ◌∙◌, ap, sym, refl, ℕ, zero, suc, ◌-◌, ◌*◌, ◌/◌, ◌%◌, ◌^◌, ◌<◌, ◌≤◌, List, [], ◌∷◌, ◌++◌, map, Bool, true, false, Option, Some, IsUtf8, arith, cond}
use Rattle.std.specs.Prelude.{codes, ◌==◌, nat_lt, unwrap_or}
use Rattle.std.specs.List.{AllByRecursion, list_all}
use Rattle.std.specs.Char.Utf16.{has_unpaired_surrogate}
use Rattle.std.proofs.lemmas.Bool.{and_parts}
use Rattle.std.proofs.lemmas.Bool.Decides.{nat_tests}
use Rattle.std.proofs.lemmas.Fmt.{IsAscii-decimal}
use Rattle.std.proofs.lemmas.Str.{IsUtf8-append, IsUtf8-nil, IsUtf8-from_ascii}
use Rattle.json.specs.Lex.{tokens}
use Rattle.json.specs.Print.{quoted}
use Rattle.json.specs.Tree.{HasNumbers, ItemsHaveNumbers, MembersHaveNumbers, json_tokens}
use Rattle.json.proofs.Printed.Decimals.{IsNumber-decimal}
use Rattle.json.proofs.Printed.Tokens.{tokens-print}
use Rattle.json.proofs.Printed.Trees.{ArePrintable-json_tokens}
use Rattle.json.proofs.Printed.Utf8.{are_ascii, IsUtf8-are_ascii, IsUtf8-quoted, IsUtf8-boolean}
use Rattle.serde_json.proofs.Texts.{print-outline}
use Rattle.serde_json.specs.Data.{Num, unsigned, negative, float, Data, null, boolean, number, string, array, object, Items, no_items, item, Members, no_members, member}
use Rattle.serde_json.specs.View.{items_of}
use Rattle.serde_json.specs.Written.{outline, items_outline, members_outline, compact_text, items_text, members_text, comma_if}
use Rattle.carrier_model.specs.Bytes.{units_of, unit_bytes}
use Rattle.carrier_model.specs.FileTrees.{Store}
use Rattle.carrier_model.specs.Keys.{Key, id, named, numbered, texted, IsKey}
use Rattle.carrier_model.specs.KeyTexts.{hex_digit, hex_digits, lower, upper}
use Rattle.carrier_model.specs.KindNames.{kind_names}
use Rattle.carrier_model.specs.Lists.{looked_up}
use Rattle.carrier_model.specs.Tree.{Message, message, Attachments, no_more, attached, Body, nothing, embedded, stored}
use Rattle.carrier_model.specs.Trees.{IsPropList, HasPropLists, HavePropLists, BodyHasPropLists}
use Rattle.carrier_model.specs.Values as plain
use Rattle.carrier_model.specs.Values.{Value, Prop, IsValue, IsProp, kind_of, width_in, number_widths, numbers_widths}
use Rattle.json_model.specs.ByteTrees.{AreBytes, ValueHasBytes, PropHasBytes, PropsHaveBytes, HasBytes, HaveBytes, BodyHasBytes}
use Rattle.json_model.specs.Digits.{hex}
use Rattle.json_model.specs.MessageForms.{json_of, json_text, attachments_json, attachment_members}
use Rattle.json_model.specs.Properties.{number_json, hex_json, key_json, kind_json, bytes_json, value_json, prop_json, props_json}
use Rattle.json_model.specs.StoreForms.{Entry, storage_entry, stream_entry, path_json, entry_json, entries_below, store_json}
use Rattle.json_model.specs.Texts.{text_json, name_json, utf8_of}
use Rattle.json_model.proofs.Meant.{by_turns, unit_bytes_are}
use Rattle.json_model.proofs.WellFormed.{units_small}
use Rattle.tree_json.proofs.ReadBack.{tokens_of, below_all, small_among, any_turns}
use Rattle.tree_json.proofs.Utf8Texts.{IsUtf8-utf8_of}

-- ---- values whose strings are UTF-8, and whose numbers are unsigned

abbrev IsCleanNumber : Num → Type 0
IsCleanNumber (unsigned n) = n < 2 ^ 64
IsCleanNumber (negative z) = ⊥
IsCleanNumber (float x) = ⊥

abbrev mutual
  IsClean : Data → Type 0
  IsClean null = Unit {0}
  IsClean (boolean b) = Unit {0}
  IsClean (number n) = IsCleanNumber n
  IsClean (string s) = IsUtf8 s
  IsClean (array ds) = AreClean ds
  IsClean (object ms) = MembersAreClean ms

  AreClean : Items → Type 0
  AreClean no_items = Unit {0}
  AreClean (item d ds) = IsClean d × AreClean ds

  MembersAreClean : Members → Type 0
  MembersAreClean no_members = Unit {0}
  MembersAreClean (member k d ms) = IsUtf8 k × (IsClean d × MembersAreClean ms)

mutual
  has_numbers : (d : Data) → IsClean d → HasNumbers (outline d)
  has_numbers null h = tt
  has_numbers (boolean b) h = tt
  has_numbers (number (unsigned n)) h = IsNumber-decimal n h
  has_numbers (number (negative z)) h = absurd h
  has_numbers (number (float x)) h = absurd h
  has_numbers (string s) h = tt
  has_numbers (array ds) h = have_numbers ds h
  has_numbers (object ms) h = members_have ms h

  have_numbers : (ds : Items) → AreClean ds → ItemsHaveNumbers (items_outline ds)
  have_numbers no_items h = tt
  have_numbers (item d ds) h = (has_numbers d h.0, have_numbers ds h.1)

  members_have : (ms : Members) → MembersAreClean ms → MembersHaveNumbers (members_outline ms)
  members_have no_members h = tt
  members_have (member k d ms) h = (has_numbers d h.1.0, members_have ms h.1.1)

comma_utf8 : (later : Bool) → IsUtf8 (comma_if later)
comma_utf8 true = IsUtf8-are_ascii (44 ∷ []) refl
comma_utf8 false = IsUtf8-nil

mutual
  value_utf8 : (d : Data) → IsClean d → IsUtf8 (compact_text d)
  value_utf8 null h = IsUtf8-are_ascii _ refl
  value_utf8 (boolean b) h = IsUtf8-boolean b
  value_utf8 (number (unsigned n)) h = IsUtf8-from_ascii _ (IsAscii-decimal n h)
  value_utf8 (number (negative z)) h = absurd h
  value_utf8 (number (float x)) h = absurd h
  value_utf8 (string s) h = IsUtf8-quoted s h
  value_utf8 (array ds) h = IsUtf8-append (91 ∷ []) (items_text false ds) (IsUtf8-are_ascii (91 ∷ []) refl) (items_utf8 false ds h)
  value_utf8 (object ms) h = IsUtf8-append (123 ∷ []) (members_text false ms) (IsUtf8-are_ascii (123 ∷ []) refl) (members_utf8 false ms h)

  items_utf8 : (later : Bool) (ds : Items) → AreClean ds → IsUtf8 (items_text later ds)
  items_utf8 later no_items h = IsUtf8-are_ascii (93 ∷ []) refl
  items_utf8 later (item d ds) h = IsUtf8-append (comma_if later) _ (comma_utf8 later) (IsUtf8-append (compact_text d) _ (value_utf8 d h.0) (items_utf8 true ds h.1))

  members_utf8 : (later : Bool) (ms : Members) → MembersAreClean ms → IsUtf8 (members_text later ms)
  members_utf8 later no_members h = IsUtf8-are_ascii (125 ∷ []) refl
  members_utf8 later (member k d ms) h =
      let value : IsUtf8 (compact_text d ++ members_text true ms) = IsUtf8-append (compact_text d) _ (value_utf8 d h.1.0) (members_utf8 true ms h.1.1) in
      IsUtf8-append (comma_if later) _ (comma_utf8 later) (IsUtf8-append (quoted k) _ (IsUtf8-quoted k h.0) (IsUtf8-append (58 ∷ []) _ (IsUtf8-are_ascii (58 ∷ []) refl) value))

-- ---- digits and names

ascii_append : (xs ys : List ℕ) → are_ascii xs ≡ true → are_ascii ys ≡ true → are_ascii (xs ++ ys) ≡ true
ascii_append [] ys h k = k
ascii_append (x ∷ xs) ys h k = let p = and_parts (nat_lt x 128) (are_ascii xs) h in rw (p.0) (ascii_append xs ys p.1 k)

digit_by : (letter d : ℕ) (b : Bool) → letter ≤ 97 → d < 16 → nat_lt d 10 ≡ b → nat_lt (hex_digit letter d) 128 ≡ true
digit_by letter d true le lt e = rw e (grind (arith, nat_tests))
digit_by letter d false le lt e = rw e (grind (arith, nat_tests))

digits_ascii : (letter count n : ℕ) → letter ≤ 97 → are_ascii (hex_digits letter count n) ≡ true
digits_ascii letter zero n le = refl
digits_ascii letter (suc count) n le =
    let small : n % 16 < 16 = omega arith in
    ascii_append (hex_digits letter count (n / 16)) (hex_digit letter (n % 16) ∷ []) (digits_ascii letter count (n / 16) le) (rw (digit_by letter (n % 16) (nat_lt (n % 16) 10) le small refl) refl)

hex_ascii : (bytes : List ℕ) → are_ascii (hex bytes) ≡ true
hex_ascii [] = refl
hex_ascii (b ∷ bytes) = ascii_append (hex_digits lower 2 b) (hex bytes) (digits_ascii lower 2 b (omega arith)) (hex_ascii bytes)

hex_clean : (bytes : List ℕ) → IsClean (hex_json bytes)
hex_clean bytes = IsUtf8-are_ascii (hex bytes) (hex_ascii bytes)

name_at : (x : List ℕ) (b : Bool) (o : Option (List ℕ)) → are_ascii x ≡ true → are_ascii (unwrap_or o []) ≡ true → are_ascii (unwrap_or (cond b (Some x) o) []) ≡ true
name_at x true o h k = h
name_at x false o h k = k

names_ascii : (rows : List (ℕ × List ℕ)) → list_all (λ (row : ℕ × List ℕ). are_ascii row.1) rows ≡ true → (n : ℕ) → are_ascii (unwrap_or (looked_up rows n) []) ≡ true
names_ascii [] all n = refl
names_ascii (row ∷ rows) all n = let p = and_parts _ _ all in name_at row.1 (row.0 == n) (looked_up rows n) p.0 (names_ascii rows p.1 n)

kind_clean : (n : ℕ) → IsClean (kind_json n)
kind_clean n = IsUtf8-are_ascii _ (names_ascii kind_names refl n)

either_clean : (b : Bool) (v w : Data) → IsClean v → IsClean w → IsClean (cond b v w)
either_clean true v w h k = h
either_clean false v w h k = k

text_clean : (x : List ℕ) → AreBytes x → IsClean (text_json x)
text_clean x h = either_clean (has_unpaired_surrogate (units_of x)) (object (member (codes "units") (string (hex x)) no_members)) (string (utf8_of (units_of x)))
    (IsUtf8-are_ascii (codes "units") refl, (hex_clean x, tt)) (IsUtf8-utf8_of (units_of x) (units_small x h))

name_clean : (units : List ℕ) → IsClean (name_json units)
name_clean units = text_clean (unit_bytes units) (unit_bytes_are units)

-- ---- lists

items_clean : {A : Type 0} (f : A → Data) (P : A → Type 0) → ((x : A) → P x → IsClean (f x)) → (xs : List A) → AllByRecursion P xs → AreClean (items_of (map f xs))
items_clean f P each [] h = tt
items_clean f P each (x ∷ xs) h = (each x h.0, items_clean f P each xs h.1)

-- ---- properties

bytes_clean : (n : ℕ) (x : List ℕ) → AreBytes x → IsClean (bytes_json n x)
bytes_clean n x h = either_clean (n == 0x001F) (text_json x) (hex_json x) (text_clean x h) (hex_clean x)

key_clean : (key : Key) → IsKey key → IsClean (key_json key)
key_clean (id n) is = IsUtf8-are_ascii _ (digits_ascii upper 4 n (omega arith))
key_clean (named (numbered set n)) is = (IsUtf8-are_ascii (codes "number") refl, (omega (arith, is.1), (IsUtf8-are_ascii (codes "set") refl, (hex_clean set, tt))))
key_clean (named (texted set units)) is = (IsUtf8-are_ascii (codes "set") refl, (hex_clean set, (IsUtf8-are_ascii (codes "text") refl, (name_clean units, tt))))

value_clean : (value : Value) → IsValue value → ValueHasBytes value → IsClean (value_json value)
value_clean (plain.number n bits) is h = below_all (width_in number_widths n) bits (small_among number_widths refl n) is.0
value_clean (plain.guid set) is h = hex_clean set
value_clean (plain.bytes n x) is h = bytes_clean n x h
value_clean (plain.numbers n list) is h =
    let w = width_in numbers_widths n in
    items_clean number_json (λ b. b < 2 ^ (8 * w)) (λ b lt. below_all w b (small_among numbers_widths refl n) lt) list (by_turns (λ b. b < 2 ^ (8 * w)) list is.0)
value_clean (plain.guids list) is h = items_clean hex_json (λ _. Unit {0}) (λ x k. hex_clean x) list (any_turns list)
value_clean (plain.parts n list) is h = items_clean (bytes_json (n - 0x1000)) AreBytes (λ x k. bytes_clean (n - 0x1000) x k) list h

prop_clean : (p : Prop) → IsProp p → PropHasBytes p → IsClean (prop_json p)
prop_clean p is h = (IsUtf8-are_ascii (codes "key") refl, (key_clean p.key is.key, (IsUtf8-are_ascii (codes "kind") refl, (kind_clean (kind_of p.value), (IsUtf8-are_ascii (codes "value") refl, (value_clean p.value is.value h.1, tt))))))

both_turns : {A : Type 0} (P Q : A → Type 0) (xs : List A) → AllByRecursion P xs → AllByRecursion Q xs → AllByRecursion (λ x. P x × Q x) xs
both_turns P Q [] h k = tt
both_turns P Q (x ∷ xs) h k = ((h.0, k.0), both_turns P Q xs h.1 k.1)

props_clean : (props : List Prop) → IsPropList props → PropsHaveBytes props → IsClean (props_json props)
props_clean props is h = items_clean prop_json (λ p. IsProp p × PropHasBytes p) (λ p k. prop_clean p k.0 k.1) props (both_turns IsProp PropHasBytes props (by_turns IsProp props is.each) h)

-- ---- stores

path_clean : (path : List (List ℕ)) → IsClean (path_json path)
path_clean path = items_clean name_json (λ _. Unit {0}) (λ x k. name_clean x) path (any_turns path)

entry_clean : (e : Entry) → IsClean (entry_json e)
entry_clean (storage_entry path class) = (IsUtf8-are_ascii (codes "class") refl, (hex_clean class, (IsUtf8-are_ascii (codes "path") refl, (path_clean path, tt))))
entry_clean (stream_entry path x) = (IsUtf8-are_ascii (codes "data") refl, (hex_clean x, (IsUtf8-are_ascii (codes "path") refl, (path_clean path, tt))))

store_clean : (s : Store) → IsClean (store_json s)
store_clean s =
    let list = entries_below [] s.members in
    (IsUtf8-are_ascii (codes "class") refl, (hex_clean s.class, (IsUtf8-are_ascii (codes "members") refl, (items_clean entry_json (λ _. Unit {0}) (λ e k. entry_clean e) list (any_turns list), tt))))

-- ---- messages

mutual
  message_clean : (t : Message) → HasPropLists t → HasBytes t → IsClean (json_of t)
  message_clean (message props recipients attachments) is h =
      let list = items_clean props_json (λ l. IsPropList l × PropsHaveBytes l) (λ l k. props_clean l k.0 k.1) recipients (both_turns IsPropList PropsHaveBytes recipients (by_turns IsPropList recipients is.1.0) h.1) in
      (IsUtf8-are_ascii (codes "attachments") refl, (attachments_clean attachments is.1.1 h.2, (IsUtf8-are_ascii (codes "properties") refl, (props_clean props is.0 h.0, (IsUtf8-are_ascii (codes "recipients") refl, (list, tt))))))

  attachments_clean : (a : Attachments) → HavePropLists a → HaveBytes a → AreClean (attachments_json a)
  attachments_clean no_more is h = tt
  attachments_clean (attached props body others) is h = (body_clean props body is.0 is.1.0 h.0 h.1, attachments_clean others is.1.1 h.2)

  body_clean : (props : List Prop) (body : Body) → IsPropList props → BodyHasPropLists body → PropsHaveBytes props → BodyHasBytes body → MembersAreClean (attachment_members props body)
  body_clean props nothing list is h k = (IsUtf8-are_ascii (codes "properties") refl, (props_clean props list h, tt))
  body_clean props (embedded inner) list is h k = (IsUtf8-are_ascii (codes "message") refl, (message_clean inner is k, (IsUtf8-are_ascii (codes "properties") refl, (props_clean props list h, tt))))
  body_clean props (stored store) list is h k = (IsUtf8-are_ascii (codes "properties") refl, (props_clean props list h, (IsUtf8-are_ascii (codes "store") refl, (store_clean store, tt))))

-- ---- texts

pub text_utf8 : (t : Message) → HasPropLists t → HasBytes t → IsUtf8 (json_text t)
text_utf8 t is h = value_utf8 (json_of t) (message_clean t is h)

pub text_tokens : (t : Message) → HasPropLists t → HasBytes t → tokens (json_text t) ≡ tokens_of (json_of t)
text_tokens t is h =
    let j = outline (json_of t) in
    ap tokens (sym (print-outline (json_of t))) ∙ tokens-print (json_tokens j) (ArePrintable-json_tokens j (has_numbers (json_of t) (message_clean t is h)))
