-- Property lists of a .msg file: a head, and so many entries of 16 bytes. [MS-OXMSG 2.4]
use Rattle.std.specs.Prelude.{◌≡◌, ℕ, ◌+◌, ◌-◌, ◌*◌, ◌/◌, ◌≤◌, ◌==◌, Bool, true, false, not, ◌&&◌, ◌||◌, nat_le, nat_lt, if◌then◌else◌, List, [], ◌∷◌, length, map, take, drop, get_or, Option, Some, None, filter_map, Result, Ok, IsPermutation}
use Rattle.std.specs.List.{range_with_len, list_any, AllZip}
use Rattle.carrier_model.specs.Trail.{Fault}
use Rattle.carrier_model.specs.Reasons.{BAD_PROP_STREAM, UNKNOWN_TYPE, UNMAPPED_ID, DUPLICATE_PROPERTY, MISSING_PROPERTIES}
use Rattle.carrier_model.specs.Outcomes.{◌>>=◌, check, mapped}
use Rattle.carrier_model.specs.Turns.{in_turn, found}
use Rattle.carrier_model.specs.Sectors.{u32_of}
use Rattle.carrier_model.specs.Streams.{Stream}
use Rattle.carrier_model.specs.Sorted.{choose, with_elements, IsStrictlySorted}
use Rattle.carrier_model.specs.Keys.{Key, id, named}
use Rattle.carrier_model.specs.Values.{Prop, prop_cmp}
use Rattle.carrier_model.specs.Kinds.{OBJECT, ATTACHED_OBJECT, is_kind}
use Rattle.carrier_model.specs.Lists.{first_of_list}
use Rattle.carrier_model.specs.Meanings.{Passed}
use Rattle.msg_model.specs.NameMap.{Pair, name_for}
use Rattle.carrier_model.specs.Lookups.{Found, size_place}
use Rattle.carrier_model.specs.Stores.{PROPERTIES}
use Rattle.msg_model.specs.MsgValues.{Streams, PropEntry, kind_in, id_in, value_of}

-- what a list belongs to
pub data Part : Type 0 where
  top : Part
  embedded_message : Part
  recipient : Part
  attachment : Part

-- the bytes of the head, which are not looked at
abbrev pub head_size : Part → ℕ
head_size top = 32
head_size embedded_message = 24
head_size recipient = 8
head_size attachment = 8

abbrev pub is_attachment : Part → Bool
is_attachment top = false
is_attachment embedded_message = false
is_attachment recipient = false
is_attachment attachment = true

-- a tag, flags that are not looked at, and eight bytes
abbrev pub prop_entry : Stream → ℕ → PropEntry
prop_entry s at = record { tag = u32_of s.bytes at; field = take 8 (drop (at + 8) s.bytes); place = get_or s.places at 0 }

-- the entries behind the head; a rest of fewer than 16 bytes is none
abbrev pub prop_entries : Part → Stream → List PropEntry
prop_entries part s = map (λ k. prop_entry s (head_size part + 16 * k)) (range_with_len 0 ((length s.bytes - head_size part) / 16))

-- ---- entries

-- What stands in a list: a property; something passed over, at the place of its entry; or the entry of the message that
-- is embedded in an attachment.
pub data Item : Type 0 where
  kept : (prop : Prop) → Item
  passed : (tag place : ℕ) → Item
  embedding : (place : ℕ) → Item

-- the types Unspecified, Null, ServerId, Restriction and RuleAction
abbrev pub is_passed_kind : ℕ → Bool
is_passed_kind kind = (kind == 0x0000) || ((kind == 0x0001) || ((kind == 0x00FB) || ((kind == 0x00FD) || (kind == 0x00FE))))

-- an id below 8000 is the key, from there on the name for which it stands
unfoldable pub key_of : List Pair → PropEntry → Result Key Fault
key_of pairs e =
    if nat_lt (id_in e) 0x8000 then Ok (id (id_in e))
    else mapped named (found (name_for pairs (id_in e)) (UNMAPPED_ID, e.place))

unfoldable pub prop_of : List Pair → Streams → PropEntry → Result Prop Fault
prop_of pairs streams e = do
  known ← check (is_kind (kind_in e)) UNKNOWN_TYPE e.place
  key ← key_of pairs e
  value ← value_of streams e
  Ok (record { key = key; value = value })

-- an entry by itself
unfoldable pub item_of : Part → List Pair → Streams → PropEntry → Result Item Fault
item_of part pairs streams e =
    if is_attachment part && (e.tag == ATTACHED_OBJECT) then Ok (embedding e.place)
    else (if (kind_in e == OBJECT) || is_passed_kind (kind_in e) then Ok (passed e.tag e.place)
    else mapped kept (prop_of pairs streams e))

-- two properties of one key and kind, or two entries of an embedded message
abbrev pub is_double : Item → Item → Bool
is_double (kept p) (kept q) = choose (prop_cmp q p) false true false
is_double (kept p) (passed tag place) = false
is_double (kept p) (embedding place) = false
is_double (passed tag place) other = false
is_double (embedding place) (kept q) = false
is_double (embedding place) (passed tag other) = false
is_double (embedding place) (embedding other) = true

abbrev pub is_new : List Item → Item → Bool
is_new before x = not (list_any (is_double x) before)

-- an entry behind others
unfoldable pub next_item : Part → List Pair → Streams → List Item → PropEntry → Result Item Fault
next_item part pairs streams before e = do
  x ← item_of part pairs streams e
  new ← check (is_new before x) DUPLICATE_PROPERTY e.place
  Ok x

-- ---- lists

abbrev pub prop_in : Item → Option Prop
prop_in (kept p) = Some p
prop_in (passed tag place) = None
prop_in (embedding place) = None

abbrev pub passed_in : Item → Option Passed
passed_in (kept p) = None
passed_in (passed tag place) = Some (false, tag, place)
passed_in (embedding place) = None

abbrev pub embedding_in : Item → Option ℕ
embedding_in (kept p) = None
embedding_in (passed tag place) = None
embedding_in (embedding place) = Some place

-- The properties, each once and strictly sorted; the place of the entry of the embedded message, where there is one;
-- and what was passed over, in order.
pub record Section : Type 0 where
  pub props : List Prop
  pub embedded : Option ℕ
  pub passed : List Passed

abbrev pub section_of : List Item → Section
section_of items = record {
  props = with_elements prop_cmp [] (filter_map prop_in items);
  embedded = first_of_list (filter_map embedding_in items);
  passed = filter_map passed_in items;
}

-- The list of a storage whose directory entry lies at `place`, or the first fault.
unfoldable pub props_of : Part → List Pair → ℕ → Streams → Result Section Fault
props_of part pairs place streams = do
  f ← found (streams PROPERTIES) (MISSING_PROPERTIES, place)
  headed ← check (nat_le (head_size part) (length f.stream.bytes)) BAD_PROP_STREAM (size_place f)
  items ← in_turn (next_item part pairs streams) [] (prop_entries part f.stream)
  Ok (section_of items)

-- ---- the same as a relation

abbrev pub option_list : {A : Type 0} → Option A → List A
option_list None = []
option_list (Some x) = x ∷ []

-- The storage has its list with these properties, sorted, each of one entry, and each entry of a property gives one.
pub record MsgProps (part : Part) (pairs : List Pair) (streams : Streams) (l : Section) : Type 0 where
  pub f : Found
  pub there : streams PROPERTIES ≡ Some f
  pub headed : head_size part ≤ length f.stream.bytes
  pub items : List Item
  pub each : AllZip (λ e x. item_of part pairs streams e ≡ Ok x) (prop_entries part f.stream) items
  pub once : IsPermutation (filter_map prop_in items) l.props
  pub sorted : IsStrictlySorted prop_cmp l.props
  pub embedding : filter_map embedding_in items ≡ option_list l.embedded
  pub passed : l.passed ≡ filter_map passed_in items
