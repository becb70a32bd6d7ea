-- No value that is written for a tree has a float.
use Rattle.std.proofs.Common.{◌≡◌, ℕ, ◌-◌, List, [], ◌∷◌, map, Bool, true, false, cond, refl}
use Rattle.std.specs.Prelude.{codes, ◌==◌}
use Rattle.std.specs.Char.Utf16.{has_unpaired_surrogate}
use Rattle.carrier_model.specs.Bytes.{units_of}
use Rattle.json_model.specs.Digits.{hex}
use Rattle.serde_json.specs.Data.{Data, object, member, no_members, string}
use Rattle.serde_json.specs.Written.{has_float, items_have_float, members_have_float}
use Rattle.carrier_model.specs.FileTrees.{Store}
use Rattle.carrier_model.specs.Keys.{Key, id, named, numbered, texted}
use Rattle.carrier_model.specs.Tree.{Message, message, Attachments, no_more, attached, Body, nothing, embedded, stored}
use Rattle.carrier_model.specs.Values.{Value, number, guid, bytes, numbers, guids, parts, Prop}
use Rattle.json_model.specs.MessageForms.{json_of, attachments_json, attachment_members}
use Rattle.json_model.specs.Properties.{listed_json, number_json, hex_json, key_json, bytes_json, value_json, prop_json, props_json}
use Rattle.json_model.specs.StoreForms.{Entry, storage_entry, stream_entry, path_json, entry_json, entries_below, store_json}
use Rattle.json_model.specs.Texts.{text_json, name_json, utf8_of}

either_plain : (b : Bool) (v w : Data) → has_float v ≡ false → has_float w ≡ false → has_float (cond b v w) ≡ false
either_plain true v w h k = h
either_plain false v w h k = k

items_plain : {A : Type 0} (f : A → Data) → ((x : A) → has_float (f x) ≡ false) → (xs : List A) → has_float (listed_json (map f xs)) ≡ false
items_plain f h [] = refl
items_plain f h (x ∷ xs) = rw (h x) (items_plain f h xs)

text_plain : (x : List ℕ) → has_float (text_json x) ≡ false
text_plain x = either_plain (has_unpaired_surrogate (units_of x)) (object (member (codes "units") (string (hex x)) no_members)) (string (utf8_of (units_of x))) refl refl

bytes_plain : (n : ℕ) (x : List ℕ) → has_float (bytes_json n x) ≡ false
bytes_plain n x = either_plain (n == 0x001F) (text_json x) (hex_json x) (text_plain x) refl

key_plain : (key : Key) → has_float (key_json key) ≡ false
key_plain (id n) = refl
key_plain (named (numbered set n)) = refl
key_plain (named (texted set units)) = rw (text_plain _) refl

value_plain : (value : Value) → has_float (value_json value) ≡ false
value_plain (number n bits) = refl
value_plain (guid set) = refl
value_plain (bytes n x) = bytes_plain n x
value_plain (numbers n list) = items_plain number_json (λ x. refl) list
value_plain (guids list) = items_plain hex_json (λ x. refl) list
value_plain (parts n list) = items_plain (bytes_json (n - 0x1000)) (bytes_plain (n - 0x1000)) list

prop_plain : (p : Prop) → has_float (prop_json p) ≡ false
prop_plain p = rw (key_plain p.key, value_plain p.value) refl

props_plain : (props : List Prop) → has_float (props_json props) ≡ false
props_plain props = items_plain prop_json prop_plain props

path_plain : (path : List (List ℕ)) → has_float (path_json path) ≡ false
path_plain path = items_plain name_json (λ x. text_plain _) path

entry_plain : (e : Entry) → has_float (entry_json e) ≡ false
entry_plain (storage_entry path class) = rw (path_plain path) refl
entry_plain (stream_entry path x) = rw (path_plain path) refl

store_plain : (s : Store) → has_float (store_json s) ≡ false
store_plain s = rw (items_plain entry_json entry_plain (entries_below [] s.members)) refl

mutual
  pub json_plain : (t : Message) → has_float (json_of t) ≡ false
  json_plain (message props recipients attachments) = rw (attachments_plain attachments, props_plain props, items_plain props_json props_plain recipients) refl

  attachments_plain : (a : Attachments) → items_have_float (attachments_json a) ≡ false
  attachments_plain no_more = refl
  attachments_plain (attached props body others) = rw (body_plain props body, attachments_plain others) refl

  body_plain : (props : List Prop) (body : Body) → members_have_float (attachment_members props body) ≡ false
  body_plain props nothing = rw (props_plain props) refl
  body_plain props (embedded inner) = rw (json_plain inner, props_plain props) refl
  body_plain props (stored store) = rw (props_plain props, store_plain store) refl
