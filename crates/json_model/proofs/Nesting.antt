-- How deep the value of a tree nests.
use Rattle.std.proofs.Common.{ℕ, ◌+◌, ◌-◌, ◌*◌, ◌≤◌, List, [], ◌∷◌, map, Bool, true, false, cond, arith}
use Rattle.std.specs.Prelude.{codes, ◌==◌}
use Rattle.std.specs.Char.Utf16.{has_unpaired_surrogate}
use Rattle.carrier_model.specs.Bytes.{units_of, unit_bytes}
use Rattle.serde_json.specs.Data as json
use Rattle.serde_json.specs.Data.{Data, object, member, no_members, string, items_depth, members_depth}
use Rattle.serde_json.specs.View.{items_of}
use Rattle.carrier_model.specs.FileTrees.{Store}
use Rattle.carrier_model.specs.Keys.{Key, id, named, numbered, texted}
use Rattle.carrier_model.specs.Tree.{Message, message, Attachments, no_more, attached, Body, nothing, embedded, stored, depth, depth_in, depth_of_body}
use Rattle.carrier_model.specs.Values.{Value, number, guid, bytes, numbers, guids, parts, Prop}
use Rattle.json_model.specs.Digits.{hex}
use Rattle.json_model.specs.MessageForms.{json_of, attachments_json, attachment_members}
use Rattle.json_model.specs.Properties.{listed_json, number_json, hex_json, key_json, bytes_json, value_json, prop_json, props_json}
use Rattle.json_model.specs.StoreForms.{Entry, storage_entry, stream_entry, path_json, entry_json, entries_below, store_json}
use Rattle.json_model.specs.Texts.{text_json, name_json, utf8_of}

either_depth : (b : Bool) (v w : Data) (n : ℕ) → json.depth v ≤ n → json.depth w ≤ n → json.depth (cond b v w) ≤ n
either_depth true v w n h k = h
either_depth false v w n h k = k

items_within : {A : Type 0} (f : A → Data) (n : ℕ) → ((x : A) → json.depth (f x) ≤ n) → (xs : List A) → items_depth (items_of (map f xs)) ≤ n
items_within f n h [] = omega arith
items_within f n h (x ∷ xs) = omega (arith, h x, items_within f n h xs)

listed_within : {A : Type 0} (f : A → Data) (n : ℕ) → ((x : A) → json.depth (f x) ≤ n) → (xs : List A) → json.depth (listed_json (map f xs)) ≤ n + 1
listed_within f n h xs = omega (arith, items_within f n h xs)

text_within : (x : List ℕ) → json.depth (text_json x) ≤ 1
text_within x = either_depth (has_unpaired_surrogate (units_of x)) (object (member (codes "units") (string (hex x)) no_members)) (string (utf8_of (units_of x))) 1 (omega arith) (omega arith)

bytes_within : (n : ℕ) (x : List ℕ) → json.depth (bytes_json n x) ≤ 1
bytes_within n x = either_depth (n == 0x001F) (text_json x) (hex_json x) 1 (text_within x) (omega arith)

key_within : (key : Key) → json.depth (key_json key) ≤ 2
key_within (id n) = omega arith
key_within (named (numbered set n)) = omega arith
key_within (named (texted set units)) = omega (arith, text_within (unit_bytes units))

value_within : (value : Value) → json.depth (value_json value) ≤ 2
value_within (number n bits) = omega arith
value_within (guid set) = omega arith
value_within (bytes n x) = omega (arith, bytes_within n x)
value_within (numbers n list) = omega (arith, listed_within number_json 0 (λ x. omega arith) list)
value_within (guids list) = omega (arith, listed_within hex_json 0 (λ x. omega arith) list)
value_within (parts n list) = omega (arith, listed_within (bytes_json (n - 0x1000)) 1 (bytes_within (n - 0x1000)) list)

prop_within : (p : Prop) → json.depth (prop_json p) ≤ 3
prop_within p = omega (arith, key_within p.key, value_within p.value)

props_within : (props : List Prop) → json.depth (props_json props) ≤ 4
props_within props = listed_within prop_json 3 prop_within props

path_within : (path : List (List ℕ)) → json.depth (path_json path) ≤ 2
path_within path = listed_within name_json 1 (λ x. text_within (unit_bytes x)) path

entry_within : (e : Entry) → json.depth (entry_json e) ≤ 3
entry_within (storage_entry path class) = omega (arith, path_within path)
entry_within (stream_entry path x) = omega (arith, path_within path)

store_within : (s : Store) → json.depth (store_json s) ≤ 5
store_within s = omega (arith, listed_within entry_json 3 entry_within (entries_below [] s.members))

-- three more for each level of messages
mutual
  pub json_within : (t : Message) → json.depth (json_of t) ≤ 8 + 3 * depth t
  json_within (message props recipients attachments) = omega (arith, attachments_within attachments, props_within props, listed_within props_json 4 props_within recipients)

  attachments_within : (a : Attachments) → items_depth (attachments_json a) ≤ 6 + 3 * depth_in a
  attachments_within no_more = omega arith
  attachments_within (attached props body others) = omega (arith, body_within props body, attachments_within others)

  body_within : (props : List Prop) (body : Body) → members_depth (attachment_members props body) ≤ 5 + 3 * depth_of_body body
  body_within props nothing = omega (arith, props_within props)
  body_within props (embedded inner) = omega (arith, json_within inner, props_within props)
  body_within props (stored store) = omega (arith, props_within props, store_within store)
