-- The values of properties in a .msg file: in the entry of the property, or in streams beside it. A single text is taken
-- whole; of each text of a multiple value one null is dropped. [MS-OXMSG 2.1.2 to 2.1.4, 2.4.2; MS-OXCDATA 2.11]
use Rattle.std.specs.Prelude.{ℕ, ◌-◌, ◌*◌, ◌/◌, ◌%◌, ◌==◌, Bool, not, ◌&&◌, ◌||◌, if◌then◌else◌, List, [], ◌++◌, length, map, take, drop, Option, Some, None, is_some, Result, Ok}
use Rattle.std.specs.List.{range_with_len}
use Rattle.carrier_model.specs.Trail.{Fault, Test, test}
use Rattle.carrier_model.specs.Reasons.{MISSING_STREAM, BAD_ELEMENT}
use Rattle.carrier_model.specs.Outcomes.{◌>>=◌, check, mapped}
use Rattle.carrier_model.specs.Turns.{tested}
use Rattle.carrier_model.specs.Sectors.{u32_of}
use Rattle.carrier_model.specs.Lookups.{Found, size_place, bytes_at, size_place_at}
use Rattle.carrier_model.specs.Values.{Value, number, guid, bytes, numbers, guids, parts, number_widths, numbers_widths, width_in, is_bytes_kind}
use Rattle.carrier_model.specs.Bytes.{le_number}
use Rattle.carrier_model.specs.Kinds.{bits_of, null_of, without_null, is_number_kind, is_numbers_kind}
use Rattle.msg_model.specs.StreamNames.{value_name, element_name}

-- the streams of a storage, by their names
abbrev pub Streams : Type 0
Streams = List ℕ → Option Found

-- ---- the entry of a property

-- A tag, eight bytes, and where the entry lies in the file. The eight bytes have the value, or the size of a stream and
-- four bytes that mean nothing.
pub record PropEntry : Type 0 where
  pub tag : ℕ
  pub field : List ℕ
  pub place : ℕ

abbrev pub kind_in : PropEntry → ℕ
kind_in e = e.tag % 0x10000

abbrev pub id_in : PropEntry → ℕ
id_in e = e.tag / 0x10000

abbrev pub size_in : PropEntry → ℕ
size_in e = u32_of e.field 0

-- ---- values in streams

-- The bytes of one element in the stream of the tag: a number, a GUID, or the size of a Binary or a text.
abbrev pub step_of : ℕ → ℕ
step_of kind =
    if is_numbers_kind kind then width_in numbers_widths kind
    else (if kind == 0x1048 then 16 else (if kind == 0x1102 then 8 else 4))

-- The numbers of bytes that the stream of the tag may have: a GUID has 16, a String an even number, and a multiple value
-- whole elements.
abbrev pub fits_kind : ℕ → ℕ → Bool
fits_kind kind n =
    if kind == 0x0048 then n == 16
    else (if is_bytes_kind kind then not (kind == 0x001F) || (n % 2 == 0)
    else n % step_of kind == 0)

-- the sizes of an absent stream that mean nothing but an empty value: 0, or that of a text's null
abbrev pub means_empty : ℕ → ℕ → Bool
means_empty kind size = (size == 0) || (size == null_of kind)

-- pieces of so many bytes, one behind the other
abbrev pub pieces_of : ℕ → List ℕ → List (List ℕ)
pieces_of width x = map (λ i. take width (drop (width * i) x)) (range_with_len 0 (length x / width))

-- an element of a multiple text or Binary: its stream, and its size as the stream of the tag has it
pub record Element : Type 0 where
  pub stream : Option Found
  pub size : ℕ

abbrev pub elements_of : Streams → ℕ → List ℕ → List Element
elements_of streams tag sizes =
    map (λ i. record { stream = streams (element_name tag i); size = u32_of sizes (step_of (tag % 0x10000) * i) })
    (range_with_len 0 (length sizes / step_of (tag % 0x10000)))

-- what an element that is there may have, and that an absent one is empty; `single` is the kind of an element
abbrev pub form_test : ℕ → Element → Test
form_test single x = test (fits_kind single (length (bytes_at x.stream))) BAD_ELEMENT (size_place_at x.stream)

abbrev pub presence_test : ℕ → ℕ → Element → Test
presence_test single place x = test (is_some x.stream || means_empty single x.size) MISSING_STREAM place

-- the elements' bytes; first all that are there are tested, then the absent ones
unfoldable pub parts_of : ℕ → ℕ → List Element → Result (List (List ℕ)) Fault
parts_of single place elements = do
  good ← tested (map (form_test single) elements ++ map (presence_test single place) elements)
  Ok (map (λ x. without_null (null_of single) (bytes_at x.stream)) elements)

-- the value whose stream has these bytes
unfoldable pub streamed_value : Streams → PropEntry → List ℕ → Result Value Fault
streamed_value streams e x =
    if kind_in e == 0x0048 then Ok (guid x)
    else (if is_bytes_kind (kind_in e) then Ok (bytes (kind_in e) x)
    else (if is_numbers_kind (kind_in e) then Ok (numbers (kind_in e) (map le_number (pieces_of (step_of (kind_in e)) x)))
    else (if kind_in e == 0x1048 then Ok (guids (pieces_of 16 x))
    else mapped (parts (kind_in e)) (parts_of (kind_in e - 0x1000) e.place (elements_of streams e.tag x)))))

-- An absent stream is empty where the entry's size says so, but for a GUID.
unfoldable pub stored_value : Streams → PropEntry → Option Found → Result Value Fault
stored_value streams e None = do
  empty ← check (not (kind_in e == 0x0048) && means_empty (kind_in e) (size_in e)) MISSING_STREAM e.place
  streamed_value streams e []
stored_value streams e (Some f) = do
  fits ← check (fits_kind (kind_in e) (length f.stream.bytes)) BAD_ELEMENT (size_place f)
  streamed_value streams e f.stream.bytes

-- a number of fixed width lies in the entry, every other value in the stream of the tag
unfoldable pub value_of : Streams → PropEntry → Result Value Fault
value_of streams e =
    if is_number_kind (kind_in e) then Ok (number (kind_in e) (bits_of (kind_in e) (take (width_in number_widths (kind_in e)) e.field)))
    else stored_value streams e (streams (value_name e.tag))
