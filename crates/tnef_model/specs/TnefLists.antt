-- Property lists of a TNEF stream: a count, and so many properties, each a tag, perhaps a name, and a value by its
-- type. [MS-OXTNEF 2.1.3.4, MS-OXCDATA 2.11]
use Rattle.std.specs.Prelude.{ℕ, ◌-◌, ◌/◌, ◌%◌, ◌==◌, ◌&&◌, ◌||◌, not, Bool, true, false, List, [], length, nat_lt, nat_le, Option, Some, None, filter_map, map}
use Rattle.std.specs.List.{list_any}
use Rattle.carrier_model.specs.Reasons.{LIST_TRUNCATED, UNKNOWN_LIST_TYPE, BAD_NAME_KIND, BAD_NAME_SIZE, BAD_COUNT, BAD_SIZE, DUPLICATE_LIST_PROPERTY}
use Rattle.carrier_model.specs.Grammar.{Form, gives, field, and_then, such, placed, choice, repeat}
use Rattle.carrier_model.specs.Sorted.{choose, with_elements}
use Rattle.carrier_model.specs.Keys.{Name, numbered, texted, Key, id, named}
use Rattle.carrier_model.specs.Values.{Value, number, guid, bytes, numbers, guids, parts, Prop, prop_cmp, number_widths, numbers_widths, width_in, is_bytes_kind}
use Rattle.carrier_model.specs.Kinds.{ATTACHED_OBJECT, OBJECT, bits_of, is_kind, is_number_kind, is_numbers_kind, null_of, without_null}
use Rattle.carrier_model.specs.Lists.{first_of_list}
use Rattle.carrier_model.specs.Bytes.{le_number, pad4, units_of}

-- ---- numbers, padding, texts

-- so many bytes of the list
abbrev pub raw : ℕ → Form (List ℕ)
raw n = field n LIST_TRUNCATED

abbrev pub word : Form ℕ
word = and_then (raw 4) (λ x. gives (le_number x))

-- so many bytes, and padding to a multiple of four that may be any bytes
abbrev pub padded : ℕ → Form (List ℕ)
padded n = and_then (raw n) (λ x. and_then (raw (pad4 n)) (λ padding. gives x))

-- ---- names

-- the bytes of a name's text: an even number, of at most 255 units and the null
unfoldable pub name_size : Form ℕ
name_size = such word (λ n. (n % 2 == 0) && nat_le n 512) BAD_NAME_SIZE

-- a text of a name, with the number of its bytes
unfoldable pub name_units : Form (ℕ × List ℕ)
name_units = and_then name_size (λ n. and_then (raw n) (λ x. gives (n, units_of (without_null 2 x))))

unfoldable pub name_text : List ℕ → Form Name
name_text set = and_then (such name_units (λ t. nat_le (length t.1) 255) BAD_NAME_SIZE) (λ t. and_then (raw (pad4 t.0)) (λ padding. gives (texted set t.1)))

unfoldable pub name_number : List ℕ → Form Name
name_number set = and_then word (λ n. gives (numbered set n))

-- a property set's GUID, and a number or a text
unfoldable pub name : Form Name
name = and_then (raw 16) (λ set. and_then (such word (λ kind. nat_le kind 1) BAD_NAME_KIND) (λ kind. choice (kind == 0) (name_number set) (name_text set)))

-- an id below 8000 is the key; another means nothing, and a name follows
unfoldable pub key : ℕ → Form Key
key n = choice (nat_lt n 0x8000) (gives (id n)) (and_then name (λ x. gives (named x)))

-- ---- values

-- a size of at least so many bytes, and even where it has to be
abbrev pub is_size : Bool → ℕ → ℕ → Bool
is_size even least n = (not even || (n % 2 == 0)) && nat_le least n

unfoldable pub size : Bool → ℕ → Form ℕ
size even least = such word (is_size even least) BAD_SIZE

-- a size, so many bytes with the place where they begin, and padding
unfoldable pub sized : Bool → ℕ → Form (ℕ × List ℕ)
sized even least = and_then (size even least) (λ n. placed (padded n))

-- a text without its null, or bytes; the size of a String is even
unfoldable pub text : ℕ → Form (List ℕ)
text kind = and_then (sized (kind == 0x001F) 0) (λ x. gives (without_null (null_of kind) x.1))

-- a count of one
unfoldable pub one : Form ℕ
one = such word (λ n. n == 1) BAD_COUNT

-- a count, and so many of a form
unfoldable pub many : {X : Type 0} → Form X → Form (List X)
many f = and_then word (λ n. repeat n (λ before. f) [])

-- a count, and so many numbers of a width
unfoldable pub numbers_of : ℕ → Form (List ℕ)
numbers_of width = and_then (many (padded width)) (λ l. gives (map le_number l))

-- the value of a kind
unfoldable pub value : ℕ → Form Value
value kind =
    choice (is_number_kind kind) (and_then (padded (width_in number_widths kind)) (λ x. gives (number kind (bits_of kind x))))
    (choice (kind == 0x0048) (and_then (padded 16) (λ x. gives (guid x)))
    (choice (is_bytes_kind kind) (and_then one (λ n. and_then (text kind) (λ x. gives (bytes kind x))))
    (choice (is_numbers_kind kind) (and_then (numbers_of (width_in numbers_widths kind)) (λ l. gives (numbers kind l)))
    (choice (kind == 0x1048) (and_then (many (padded 16)) (λ l. gives (guids l)))
    (and_then (many (text (kind - 0x1000))) (λ l. gives (parts kind l)))))))

-- ---- properties

-- What stands in a list: a property; an Object, which is passed over at the place of its tag; or the Object of an
-- attachment, the value's bytes with their place.
pub data Item : Type 0 where
  kept : (prop : Prop) → Item
  passed : (tag place : ℕ) → Item
  carried : (place : ℕ) → (content : List ℕ) → Item

-- the id is the upper half, the type the lower
unfoldable pub tag : Form ℕ
tag = such word (λ t. (t % 0x10000 == OBJECT) || is_kind (t % 0x10000)) UNKNOWN_LIST_TYPE

-- an Object at a tag; that of an attachment has at least the 16 bytes of an interface's id
unfoldable pub object : Bool → ℕ → ℕ → Form Item
object in_attachment place t = and_then one (λ n. choice (in_attachment && (t == ATTACHED_OBJECT))
    (and_then (sized false 16) (λ x. gives (carried x.0 x.1)))
    (and_then (sized false 0) (λ x. gives (passed t place))))

-- the key of an id, and a value of a kind
unfoldable pub property : ℕ → ℕ → Form Prop
property n kind = and_then (key n) (λ k. and_then (value kind) (λ v. gives (record { key = k; value = v })))

-- what stands behind a tag
unfoldable pub described : Bool → ℕ → ℕ → Form Item
described in_attachment place t = choice (t % 0x10000 == OBJECT) (and_then (key (t / 0x10000)) (λ k. object in_attachment place t)) (and_then (property (t / 0x10000) (t % 0x10000)) (λ p. gives (kept p)))

-- two properties of one key and kind, or two Objects of the attachment
abbrev pub is_double : Item → Item → Bool
is_double (kept p) (kept q) = choose (prop_cmp q p) false true false
is_double (kept p) (passed t place) = false
is_double (kept p) (carried place content) = false
is_double (passed t place) other = false
is_double (carried place content) (kept q) = false
is_double (carried place content) (passed t other) = false
is_double (carried place content) (carried other others) = true

abbrev pub is_new : List Item → Item → Bool
is_new before x = not (list_any (is_double x) before)

-- an item by itself
unfoldable pub any_item : Bool → Form Item
any_item in_attachment = and_then (placed tag) (λ t. described in_attachment t.0 t.1)

-- an item of a list, behind others; one that is there already is a fault at its tag
unfoldable pub item : Bool → List Item → Form Item
item in_attachment before = such (any_item in_attachment) (is_new before) DUPLICATE_LIST_PROPERTY

unfoldable pub items : Bool → Form (List Item)
items in_attachment = and_then word (λ n. repeat n (item in_attachment) [])

-- ---- what a list means

abbrev pub prop_in : Item → Option Prop
prop_in (kept p) = Some p
prop_in (passed t place) = None
prop_in (carried place content) = None

abbrev pub passed_in : Item → Option (Bool × ℕ × ℕ)
passed_in (kept p) = None
passed_in (passed t place) = Some (false, t, place)
passed_in (carried place content) = None

abbrev pub content_in : Item → Option (ℕ × List ℕ)
content_in (kept p) = None
content_in (passed t place) = None
content_in (carried place content) = Some (place, content)

-- The properties, each once and strictly sorted; the Object of an attachment, its bytes with their place; and what
-- was passed over, in order: that it is no attribute, its tag, and the place of that tag.
pub record PropList : Type 0 where
  pub props : List Prop
  pub object : Option (ℕ × List ℕ)
  pub passed : List (Bool × ℕ × ℕ)

abbrev pub list_of : List Item → PropList
list_of l = record {
  props = with_elements prop_cmp [] (filter_map prop_in l);
  object = first_of_list (filter_map content_in l);
  passed = filter_map passed_in l;
}

-- a property list; those of attachments may carry an Object
unfoldable pub prop_list : Bool → Form PropList
prop_list in_attachment = and_then (items in_attachment) (λ l. gives (list_of l))

-- a count of recipients, and a list for each
unfoldable pub recipient_lists : Form (List PropList)
recipient_lists = many (prop_list false)
