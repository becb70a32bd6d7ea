-- The text of a tree is read back as the value of that tree.
use Rattle.std.proofs.Common.{◌≡◌, ◌∙◌, ap, sym, refl, ℕ, zero, ◌-◌, ◌*◌, ◌≤◌, ◌<◌, ◌^◌, List, [], ◌∷◌, map, Bool, true, false, cond, Option, Some, true≢false, nat_le, arith, append-nil}
use Rattle.std.specs.Prelude.{codes, ◌==◌, ◌&&◌, unwrap_or, option_map, option_and_then}
use Rattle.std.specs.List.{AllByRecursion, list_all}
use Rattle.std.specs.Char.Utf16.{has_unpaired_surrogate}
use Rattle.std.proofs.lemmas.Bool.Decides.{nat_tests}
use Rattle.std.proofs.Math.Nat.{pow-le-pow_right}
use Rattle.json.specs.Json as json
use Rattle.json.specs.Lex.{tokens}
use Rattle.json.specs.Token.{Token}
use Rattle.json.specs.Tree as shape
use Rattle.json.proofs.Printed.Trees.{value-json_tokens}
use Rattle.serde_json.specs.Data.{Data, null, boolean, number, string, array, object, Items, no_items, item, Members, no_members, member, depth, items_depth, members_depth}
use Rattle.serde_json.specs.Read.{read, max_depth, of_json, of_items, of_members}
use Rattle.serde_json.specs.View.{items_of}
use Rattle.serde_json.specs.Written.{outline, items_outline, members_outline}
use Rattle.serde_json.proofs.Numbers.{number_of-decimal}
use Rattle.carrier_model.specs.Bytes.{units_of}
use Rattle.carrier_model.specs.FileTrees.{Store}
use Rattle.carrier_model.specs.Keys.{Key, id, named, numbered, texted, IsKey}
use Rattle.carrier_model.specs.Lists.{looked_up}
use Rattle.carrier_model.specs.Tree.{Message, message, Attachments, no_more, attached, Body, nothing, embedded, stored}
use Rattle.carrier_model.specs.Trees.{IsTree, IsPropList, HasPropLists, HavePropLists, BodyHasPropLists}
use Rattle.carrier_model.specs.Values as plain
use Rattle.carrier_model.specs.Values.{Value, Prop, IsValue, IsProp, width_in, number_widths, numbers_widths}
use Rattle.json_model.specs.Digits.{hex}
use Rattle.json_model.specs.MessageForms.{json_of, attachments_json, attachment_members}
use Rattle.json_model.specs.Properties.{listed_json, number_json, hex_json, key_json, bytes_json, value_json, prop_json, props_json}
use Rattle.json_model.specs.StoreForms.{Entry, storage_entry, stream_entry, path_json, entry_json, entries_below, store_json}
use Rattle.json_model.specs.Texts.{text_json, name_json, utf8_of}
use Rattle.json_model.proofs.Meant.{by_turns}
use Rattle.json_model.proofs.Nesting.{json_within}

-- the tokens of a value
abbrev pub tokens_of : Data → List Token
tokens_of d = shape.json_tokens (outline d)

-- ---- lists

items_return : {A : Type 0} (f : A → Data) (P : A → Type 0) → ((x : A) → P x → of_json (outline (f x)) ≡ Some (f x)) → (xs : List A) → AllByRecursion P xs
    → of_items (items_outline (items_of (map f xs))) ≡ Some (items_of (map f xs))
items_return f P each [] h = refl
items_return f P each (x ∷ xs) h = rw (each x h.0, items_return f P each xs h.1) refl

listed_return : {A : Type 0} (f : A → Data) (P : A → Type 0) → ((x : A) → P x → of_json (outline (f x)) ≡ Some (f x)) → (xs : List A) → AllByRecursion P xs
    → of_json (outline (listed_json (map f xs))) ≡ Some (listed_json (map f xs))
listed_return f P each xs h = ap (option_map array) (items_return f P each xs h)

pub any_turns : {A : Type 0} (xs : List A) → AllByRecursion (λ _. Unit {0}) xs
any_turns [] = tt
any_turns (x ∷ xs) = (tt, any_turns xs)

-- ---- numbers

number_returns : (n : ℕ) → n < 2 ^ 64 → of_json (outline (number_json n)) ≡ Some (number_json n)
number_returns n h = ap (option_map number) (number_of-decimal n h)

small_at : (w : ℕ) (b : Bool) (o : Option ℕ) → nat_le w 8 ≡ true → unwrap_or o 0 ≤ 8 → unwrap_or (cond b (Some w) o) 0 ≤ 8
small_at w true o h k = grind (arith, nat_tests)
small_at w false o h k = k

both_true : (a b : Bool) → (a && b) ≡ true → (a ≡ true) × (b ≡ true)
both_true true b h = (refl, h)
both_true false b h = absurd (true≢false (sym h))

pub small_among : (rows : List (ℕ × ℕ)) → list_all (λ (row : ℕ × ℕ). nat_le row.1 8) rows ≡ true → (n : ℕ) → unwrap_or (looked_up rows n) 0 ≤ 8
small_among [] all n = omega arith
small_among (row ∷ rows) all n =
    let both = both_true (nat_le row.1 8) (list_all (λ (r : ℕ × ℕ). nat_le r.1 8) rows) all in
    small_at row.1 (row.0 == n) (looked_up rows n) both.0 (small_among rows both.1 n)

pub below_all : (w n : ℕ) → w ≤ 8 → n < 2 ^ (8 * w) → n < 2 ^ 64
below_all w n few h =
    let some : zero < 2 = omega arith in
    let wide : 8 * w ≤ 64 = omega (arith, few) in
    let le : 2 ^ (8 * w) ≤ 2 ^ 64 = pow-le-pow_right some wide in
    omega (arith, h, le)

-- ---- properties

either_returns : (b : Bool) (v w : Data) → of_json (outline v) ≡ Some v → of_json (outline w) ≡ Some w → of_json (outline (cond b v w)) ≡ Some (cond b v w)
either_returns true v w h k = h
either_returns false v w h k = k

text_returns : (x : List ℕ) → of_json (outline (text_json x)) ≡ Some (text_json x)
text_returns x = either_returns (has_unpaired_surrogate (units_of x)) (object (member (codes "units") (string (hex x)) no_members)) (string (utf8_of (units_of x))) refl refl

bytes_return : (n : ℕ) (x : List ℕ) → of_json (outline (bytes_json n x)) ≡ Some (bytes_json n x)
bytes_return n x = either_returns (n == 0x001F) (text_json x) (hex_json x) (text_returns x) refl

key_returns : (key : Key) → IsKey key → of_json (outline (key_json key)) ≡ Some (key_json key)
key_returns (id n) is = refl
key_returns (named (numbered set n)) is = rw (number_of-decimal n (omega (arith, is.1))) refl
key_returns (named (texted set units)) is = rw (text_returns _) refl

value_returns : (value : Value) → IsValue value → of_json (outline (value_json value)) ≡ Some (value_json value)
value_returns (plain.number n bits) is = number_returns bits (below_all (width_in number_widths n) bits (small_among number_widths refl n) is.0)
value_returns (plain.guid set) is = refl
value_returns (plain.bytes n x) is = bytes_return n x
value_returns (plain.numbers n list) is =
    let w = width_in numbers_widths n in
    listed_return number_json (λ b. b < 2 ^ (8 * w)) (λ b h. number_returns b (below_all w b (small_among numbers_widths refl n) h)) list (by_turns (λ b. b < 2 ^ (8 * w)) list is.0)
value_returns (plain.guids list) is = listed_return hex_json (λ _. Unit {0}) (λ x h. refl) list (any_turns list)
value_returns (plain.parts n list) is = listed_return (bytes_json (n - 0x1000)) (λ _. Unit {0}) (λ x h. bytes_return (n - 0x1000) x) list (any_turns list)

prop_returns : (p : Prop) → IsProp p → of_json (outline (prop_json p)) ≡ Some (prop_json p)
prop_returns p is = rw (key_returns p.key is.key, value_returns p.value is.value) refl

props_return : (props : List Prop) → IsPropList props → of_json (outline (props_json props)) ≡ Some (props_json props)
props_return props is = listed_return prop_json IsProp prop_returns props (by_turns IsProp props is.each)

-- ---- stores

path_returns : (path : List (List ℕ)) → of_json (outline (path_json path)) ≡ Some (path_json path)
path_returns path = listed_return name_json (λ _. Unit {0}) (λ x h. text_returns _) path (any_turns path)

entry_returns : (e : Entry) → of_json (outline (entry_json e)) ≡ Some (entry_json e)
entry_returns (storage_entry path class) = rw (path_returns path) refl
entry_returns (stream_entry path x) = rw (path_returns path) refl

store_returns : (s : Store) → of_json (outline (store_json s)) ≡ Some (store_json s)
store_returns s =
    let list = entries_below [] s.members in
    rw (listed_return entry_json (λ _. Unit {0}) (λ e h. entry_returns e) list (any_turns list)) refl

-- ---- messages

mutual
  message_returns : (t : Message) → HasPropLists t → of_json (outline (json_of t)) ≡ Some (json_of t)
  message_returns (message props recipients attachments) is =
      rw (attachments_return attachments is.1.1, props_return props is.0, listed_return props_json IsPropList props_return recipients (by_turns IsPropList recipients is.1.0)) refl

  attachments_return : (a : Attachments) → HavePropLists a → of_items (items_outline (attachments_json a)) ≡ Some (attachments_json a)
  attachments_return no_more is = refl
  attachments_return (attached props body others) is = rw (body_returns props body is.0 is.1.0, attachments_return others is.1.1) refl

  body_returns : (props : List Prop) (body : Body) → IsPropList props → BodyHasPropLists body → of_members (members_outline (attachment_members props body)) no_members ≡ Some (attachment_members props body)
  body_returns props nothing list is = rw (props_return props list) refl
  body_returns props (embedded inner) list is = rw (message_returns inner is, props_return props list) refl
  body_returns props (stored store) list is = rw (props_return props list, store_returns store) refl

-- ---- texts

mutual
  outline_depth : (d : Data) → shape.depth (outline d) ≤ depth d
  outline_depth null = omega arith
  outline_depth (boolean b) = omega arith
  outline_depth (number n) = omega arith
  outline_depth (string s) = omega arith
  outline_depth (array ds) = omega (arith, items_outline_depth ds)
  outline_depth (object ms) = omega (arith, members_outline_depth ms)

  items_outline_depth : (ds : Items) → shape.items_depth (items_outline ds) ≤ items_depth ds
  items_outline_depth no_items = omega arith
  items_outline_depth (item d ds) = omega (arith, outline_depth d, items_outline_depth ds)

  members_outline_depth : (ms : Members) → shape.members_depth (members_outline ms) ≤ members_depth ms
  members_outline_depth no_members = omega arith
  members_outline_depth (member k d ms) = omega (arith, outline_depth d, members_outline_depth ms)

whole : Option (json.Json × List Token) → Option Data
whole o = option_and_then of_json (option_and_then (λ p. json.if_last p.0 p.1) o)

-- a text of the tokens of a tree's value is read as that value
pub read_back : (t : Message) (text : List ℕ) → IsTree t → tokens text ≡ tokens_of (json_of t) → read text ≡ Some (json_of t)
unfolding whole
read_back t text is same =
    let j = outline (json_of t) in
    let few : shape.depth j ≤ max_depth = omega (arith, outline_depth (json_of t), json_within t, is.levels) in
    ap whole (ap (json.value max_depth) (same ∙ sym (append-nil _)) ∙ value-json_tokens j max_depth [] few) ∙ message_returns t is.lists
