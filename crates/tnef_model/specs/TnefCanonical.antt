-- The one TNEF stream that a message is written as: attributes and lists in a fixed order, padding zero, each text
-- with its null. [MS-OXTNEF 2.1.3, 2.2]
use Rattle.std.specs.Prelude.{ℕ, ◌+◌, ◌-◌, ◌==◌, ◌&&◌, not, List, [], ◌∷◌, ◌++◌, length, replicate, Option, Some, None, filter, find, unwrap_or}
use Rattle.std.specs.Option.{option_map}
use Rattle.std.specs.List.{flat_map}
use Rattle.carrier_model.specs.Bytes.{le16, le32, le_bytes, unit_bytes, pad4}
use Rattle.tnef_model.specs.Attributes.{SIGNATURE, attr, spelling}
use Rattle.carrier_model.specs.Keys.{Name, numbered, texted, Key, id, named, is_id, id_of}
use Rattle.carrier_model.specs.Values.{Value, number, guid, bytes, numbers, guids, parts, Prop, kind_of, number_widths, numbers_widths, width_in}
use Rattle.carrier_model.specs.Tree.{Message, message, Attachments, no_more, attached, Body, nothing, embedded, stored, names_of}
use Rattle.carrier_model.specs.Kinds.{null_of, OBJECT, comes_before_object}
use Rattle.tnef_model.specs.LegacyAttributes.{VERSION, CODE_PAGE, MESSAGE_PROPS, RECIPIENTS, RENDERING, ATTACHMENT}
use Rattle.carrier_model.specs.Stores.{store_bytes}
use Rattle.tnef_model.specs.TnefMessage.{IID_MESSAGE, IID_STORAGE}

-- ---- values

abbrev pub zero_padded : List ℕ → List ℕ
zero_padded x = x ++ replicate (pad4 (length x)) 0

abbrev pub with_size : List ℕ → List ℕ
with_size x = le32 (length x) ++ zero_padded x

abbrev pub text_bytes : ℕ → List ℕ → List ℕ
text_bytes kind x = with_size (x ++ replicate (null_of kind) 0)

abbrev pub value_bytes : Value → List ℕ
value_bytes (number kind bits) = zero_padded (le_bytes (width_in number_widths kind) bits)
value_bytes (guid set) = set
value_bytes (bytes kind x) = le32 1 ++ text_bytes kind x
value_bytes (numbers kind list) = le32 (length list) ++ flat_map (λ n. zero_padded (le_bytes (width_in numbers_widths kind) n)) list
value_bytes (guids list) = le32 (length list) ++ flat_map (λ g. g) list
value_bytes (parts kind list) = le32 (length list) ++ flat_map (text_bytes (kind - 0x1000)) list

-- ---- properties

abbrev pub name_bytes : Name → List ℕ
name_bytes (numbered set n) = set ++ (le32 0 ++ le32 n)
name_bytes (texted set units) = set ++ (le32 1 ++ with_size (unit_bytes (units ++ 0 ∷ [])))

abbrev pub tag_bytes : ℕ → ℕ → List ℕ
tag_bytes n kind = le16 kind ++ le16 n

abbrev pub key_bytes : List Name → Key → ℕ → List ℕ
key_bytes names (id n) kind = tag_bytes n kind
key_bytes names (named name) kind = tag_bytes (id_of names name) kind ++ name_bytes name

abbrev pub prop_bytes : List Name → Prop → List ℕ
prop_bytes names p = key_bytes names p.key (kind_of p.value) ++ value_bytes p.value

abbrev pub props_bytes : List Name → List Prop → List ℕ
props_bytes names = flat_map (prop_bytes names)

abbrev pub object_bytes : List ℕ → List ℕ
object_bytes x = tag_bytes 0x3701 OBJECT ++ (le32 1 ++ with_size x)

-- a list, and the Object of an attachment in its place
abbrev pub list_bytes : List Name → List Prop → Option (List ℕ) → List ℕ
list_bytes names props None = le32 (length props) ++ props_bytes names props
list_bytes names props (Some x) = le32 (length props + 1) ++ (props_bytes names (filter comes_before_object props) ++ (object_bytes x ++ props_bytes names (filter (λ p. not (comes_before_object p)) props)))

-- ---- attributes

abbrev pub attribute : ℕ → ℕ → List ℕ → List ℕ
attribute level n content = spelling (attr level n 0 content)

abbrev pub bits_in : Value → ℕ
bits_in (number kind bits) = bits
bits_in (guid set) = 0
bits_in (bytes kind x) = 0
bits_in (numbers kind list) = 0
bits_in (guids list) = 0
bits_in (parts kind list) = 0

-- the Integer32 of an id, or else a number
abbrev pub integer_or : List Prop → ℕ → ℕ → ℕ
integer_or props n other = unwrap_or (option_map (λ p. bits_in p.value) (find (λ p. is_id n p.key && (kind_of p.value == 0x0003)) props)) other

-- signature, key and version
abbrev pub front : List ℕ
front = le32 SIGNATURE ++ (le16 1 ++ attribute 1 VERSION (le32 0x00010000))

abbrev pub page_attribute : List Prop → List ℕ
page_attribute props = attribute 1 CODE_PAGE (le32 (integer_or props 0x3FFD 1252) ++ le32 0)

-- none where there are no recipients
abbrev pub recipients_attribute : List Name → List (List Prop) → List ℕ
recipients_attribute names [] = []
recipients_attribute names (r ∷ others) = attribute 1 RECIPIENTS (le32 (length (r ∷ others)) ++ flat_map (λ props. list_bytes names props None) (r ∷ others))

abbrev pub props_attribute : List Name → List Prop → List ℕ
props_attribute names props = attribute 1 MESSAGE_PROPS (list_bytes names props None)

-- type, position, width, height and flags
abbrev pub rendering_attribute : List Prop → List ℕ
rendering_attribute props = attribute 2 RENDERING (le16 1 ++ (le32 (integer_or props 0x370B 0xFFFFFFFF) ++ replicate 8 0))

-- ---- messages

abbrev mutual
  pub stream_of : List Name → Message → List ℕ
  stream_of names (message props recipients attachments) =
      front ++ (page_attribute props ++ (recipients_attribute names recipients ++ (props_attribute names props ++ attachments_bytes names attachments)))

  pub attachments_bytes : List Name → Attachments → List ℕ
  attachments_bytes names no_more = []
  attachments_bytes names (attached props body others) =
      rendering_attribute props ++ (attribute 2 ATTACHMENT (list_bytes names props (content_of names body)) ++ attachments_bytes names others)

  pub content_of : List Name → Body → Option (List ℕ)
  content_of names nothing = None
  content_of names (embedded inner) = Some (IID_MESSAGE ++ stream_of names inner)
  content_of names (stored store) = Some (IID_STORAGE ++ store_bytes store)

-- the canonical stream; embedded messages use the ids of the whole tree
abbrev pub tnef_of : Message → List ℕ
tnef_of t = stream_of (names_of t) t
