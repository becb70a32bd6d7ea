-- Properties: keys, kinds by their names, and values. [MS-OXCDATA 2.6.1 and 2.11.1]
use Rattle.std.specs.Prelude.{ℕ, ◌*◌, ◌-◌, ◌^◌, ◌==◌, nat_lt, Bool, true, false, if◌then◌else◌, List, [], ◌∷◌, length, unwrap_or, map, Result, Ok, Err, codes, bytes_eq}
use Rattle.serde_json.specs.Data.{Data, null, boolean, string, array, object, Items, member, no_members, unsigned}
use Rattle.serde_json.specs.Data as json
use Rattle.serde_json.specs.View.{items_of}
use Rattle.carrier_model.specs.KeyTexts.{hex_digits, upper}
use Rattle.carrier_model.specs.Keys.{Name, numbered, texted, Key, id, named}
use Rattle.carrier_model.specs.KindNames.{kind_names, kind_name}
use Rattle.carrier_model.specs.Kinds.{is_number_kind, is_numbers_kind}
use Rattle.carrier_model.specs.Sorted.{choose}
use Rattle.carrier_model.specs.Values.{Value, number, guid, bytes, numbers, guids, parts, Prop, prop_cmp, kind_of, width_in, number_widths, numbers_widths, is_bytes_kind, list_limit}
use Rattle.json_model.specs.Digits.{hex, read_hex, read_guid, read_id}
use Rattle.json_model.specs.Faults.{JsonFault, form, kind, range, order, ◌>>=◌, check, mapped, under, fault_here}
use Rattle.json_model.specs.Parts.{has_members, member_at, string_at, number_below, read_array, read_each}
use Rattle.json_model.specs.Texts.{text_json, name_json, read_text, read_name}

-- ---- written

abbrev pub listed_json : List Data → Data
listed_json list = array (items_of list)

abbrev pub hex_json : List ℕ → Data
hex_json x = string (hex x)

abbrev pub number_json : ℕ → Data
number_json n = json.number (unsigned n)

abbrev pub key_json : Key → Data
key_json (id n) = string (hex_digits upper 4 n)
key_json (named (numbered set n)) = object (member (codes "number") (number_json n) (member (codes "set") (hex_json set) no_members))
key_json (named (texted set units)) = object (member (codes "set") (hex_json set) (member (codes "text") (name_json units) no_members))

abbrev pub kind_json : ℕ → Data
kind_json n = string (unwrap_or (kind_name n) [])

-- the bytes of a kind: a String is a text, others are digits
abbrev pub bytes_json : ℕ → List ℕ → Data
bytes_json n x = if n == 0x001F then text_json x else hex_json x

abbrev pub value_json : Value → Data
value_json (number n bits) = number_json bits
value_json (guid set) = hex_json set
value_json (bytes n x) = bytes_json n x
value_json (numbers n list) = listed_json (map number_json list)
value_json (guids list) = listed_json (map hex_json list)
value_json (parts n list) = listed_json (map (bytes_json (n - 0x1000)) list)

abbrev pub prop_json : Prop → Data
prop_json p =
    object (member (codes "key") (key_json p.key)
    (member (codes "kind") (kind_json (kind_of p.value))
    (member (codes "value") (value_json p.value) no_members)))

abbrev pub props_json : List Prop → Data
props_json props = listed_json (map prop_json props)

-- ---- read

abbrev pub NUMBERED : List (List ℕ)
NUMBERED = codes "number" ∷ codes "set" ∷ []

abbrev pub TEXTED : List (List ℕ)
TEXTED = codes "set" ∷ codes "text" ∷ []

abbrev pub PROPERTY : List (List ℕ)
PROPERTY = codes "key" ∷ codes "kind" ∷ codes "value" ∷ []

-- a name's text has at most 255 units
abbrev pub MOST_UNITS : ℕ
MOST_UNITS = 255

abbrev pub read_numbered : Data → Result Name JsonFault
read_numbered v = do
  a ← member_at (codes "number") v
  n ← under 0 (number_below (2 ^ 32) a)
  b ← member_at (codes "set") v
  set ← under 1 (read_guid b)
  Ok (numbered set n)

abbrev pub read_texted : Data → Result Name JsonFault
read_texted v = do
  a ← member_at (codes "set") v
  set ← under 0 (read_guid a)
  b ← member_at (codes "text") v
  units ← under 1 (read_name MOST_UNITS b)
  Ok (texted set units)

abbrev pub read_named : Data → Result Name JsonFault
read_named v =
    if has_members NUMBERED v then read_numbered v
    else (if has_members TEXTED v then read_texted v else Err (fault_here form))

abbrev pub read_key : Data → Result Key JsonFault
read_key null = mapped named (read_named null)
read_key (boolean b) = mapped named (read_named (boolean b))
read_key (json.number n) = mapped named (read_named (json.number n))
read_key (string s) = mapped id (read_id s)
read_key (array ds) = mapped named (read_named (array ds))
read_key (object ms) = mapped named (read_named (object ms))

-- the kind of a name
abbrev pub kind_among : List (ℕ × List ℕ) → List ℕ → Result ℕ JsonFault
kind_among [] name = Err (fault_here kind)
kind_among (row ∷ rows) name = if bytes_eq row.1 name then Ok row.0 else kind_among rows name

abbrev pub read_kind : Data → Result ℕ JsonFault
read_kind v = do
  name ← string_at v
  kind_among kind_names name

-- one above the greatest number of a kind; a Boolean is 0 or 1
abbrev pub number_limit : ℕ → ℕ
number_limit n = if n == 0x000B then 2 else 2 ^ (8 * width_in number_widths n)

abbrev pub numbers_limit : ℕ → ℕ
numbers_limit n = 2 ^ (8 * width_in numbers_widths n)

-- one above the most bytes of a kind, and of elements; no text of 33,554,432 bytes has as many
abbrev pub bytes_limit : ℕ → ℕ
bytes_limit n = if n == 0x001E then 0x1000_0000 else 0x4000_0000

abbrev pub read_bytes : ℕ → Data → Result (List ℕ) JsonFault
read_bytes n v = do
  x ← if n == 0x001F then read_text v else read_hex v
  short ← check (nat_lt (length x) (bytes_limit n)) range
  Ok x

abbrev pub read_list : {A : Type 0} → (Data → Result A JsonFault) → Data → Result (List A) JsonFault
read_list read v = do
  list ← read_each read v
  short ← check (nat_lt (length list) list_limit) range
  Ok list

abbrev pub read_value : ℕ → Data → Result Value JsonFault
read_value n v =
    if is_number_kind n then mapped (number n) (number_below (number_limit n) v)
    else (if n == 0x0048 then mapped guid (read_guid v)
    else (if is_bytes_kind n then mapped (bytes n) (read_bytes n v)
    else (if is_numbers_kind n then mapped (numbers n) (read_list (number_below (numbers_limit n)) v)
    else (if n == 0x1048 then mapped guids (read_list read_guid v)
    else mapped (parts n) (read_list (read_bytes (n - 0x1000)) v)))))

-- a property's kind is tested before its other members
abbrev pub read_prop : Data → Result Prop JsonFault
read_prop v = do
  whole ← check (has_members PROPERTY v) form
  b ← member_at (codes "kind") v
  n ← under 1 (read_kind b)
  a ← member_at (codes "key") v
  key ← under 0 (read_key a)
  c ← member_at (codes "value") v
  value ← under 2 (read_value n c)
  Ok (record { key = key; value = value })

-- a property comes after the last one, if there is one
abbrev pub comes_after : List Prop → Prop → Bool
comes_after [] p = true
comes_after (q ∷ []) p = choose (prop_cmp q p) true false false
comes_after (q ∷ r ∷ more) p = comes_after (r ∷ more) p

abbrev pub read_next_prop : List Prop → Data → Result Prop JsonFault
read_next_prop before v = do
  p ← read_prop v
  after ← check (comes_after before p) order
  Ok p

abbrev pub read_props : Data → Result (List Prop) JsonFault
read_props = read_array read_next_prop
