-- A tree whose texts of 8-bit characters become texts of 16-bit units: which properties these are, in which page each
-- stands, what becomes of them, and which of them aren't mapped. [MS-OXCDATA 2.11.1]
use Rattle.std.specs.Prelude.{ℕ, ◌+◌, ◌==◌, if◌then◌else◌, Bool, true, false, not, List, [], ◌∷◌, ◌++◌, length, map, sum_by, Option, Some, None}
use Rattle.std.specs.List.{list_any}
use Rattle.carrier_model.specs.Bytes.{unit_bytes}
use Rattle.carrier_model.specs.Keys.{Key, is_id}
use Rattle.carrier_model.specs.Lists.{first_of_list}
use Rattle.carrier_model.specs.Sorted.{choose}
use Rattle.carrier_model.specs.Totals.{capped}
use Rattle.carrier_model.specs.Tree.{Message, message, Attachments, no_more, attached, Body, nothing, embedded, stored}
use Rattle.carrier_model.specs.Values.{Value, number, guid, bytes, numbers, guids, parts, Prop, prop_cmp, with_pair}
use Rattle.text8_model.specs.Pages.{Page, page_of}
use Rattle.text8_model.specs.Texts.{bad_place, units_in}
use Rattle.text8_model.specs.Unmapped.{Unmapped, at_page, at_byte}

-- ---- the page of a message

-- PidTagMessageCodepage
abbrev pub CODEPAGE : ℕ
CODEPAGE = 0x3FFD

abbrev pub FIRST_PAGE : ℕ
FIRST_PAGE = 1252

-- the bits of an Integer32
abbrev pub integer32_in : Value → Option ℕ
integer32_in (number kind bits) = if kind == 0x0003 then Some bits else None
integer32_in (guid set) = None
integer32_in (bytes kind x) = None
integer32_in (numbers kind list) = None
integer32_in (guids list) = None
integer32_in (parts kind list) = None

-- the page that a property names
abbrev pub page_named : Prop → Option ℕ
page_named p = if is_id CODEPAGE p.key then integer32_in p.value else None

abbrev pub or_page : Option ℕ → ℕ → ℕ
or_page None page = page
or_page (Some own) page = own

-- the number of a message's page: that which its properties name, or else that of the message round it
abbrev pub page_in : ℕ → List Prop → ℕ
page_in outer [] = outer
page_in outer (p ∷ ps) = or_page (page_named p) (page_in outer ps)

-- ---- the properties that become others

-- the kind of what a text of 8-bit characters becomes: String for String8, MultipleString for MultipleString8
abbrev pub wide_kind : Value → Option ℕ
wide_kind (number kind bits) = None
wide_kind (guid set) = None
wide_kind (bytes kind x) = if kind == 0x001E then Some 0x001F else None
wide_kind (numbers kind list) = None
wide_kind (guids list) = None
wide_kind (parts kind list) = if kind == 0x101E then Some 0x101F else None

abbrev pub has_pair : List Prop → Key → ℕ → Bool
has_pair props key kind = list_any (λ q. choose (prop_cmp q (with_pair key kind)) false true false) props

abbrev pub lacks : List Prop → Key → Option ℕ → Bool
lacks props key None = false
lacks props key (Some kind) = not (has_pair props key kind)

-- a text of 8-bit characters, in a list that doesn't have the key with the new kind
abbrev pub is_to_convert : List Prop → Prop → Bool
is_to_convert props p = lacks props p.key (wide_kind p.value)

-- ---- what they become

abbrev pub wide_bytes : Page → List ℕ → List ℕ
wide_bytes page x = unit_bytes (units_in page x)

abbrev pub wide_value : Page → Value → Value
wide_value page (number kind bits) = number kind bits
wide_value page (guid set) = guid set
wide_value page (bytes kind x) = bytes 0x001F (wide_bytes page x)
wide_value page (numbers kind list) = numbers kind list
wide_value page (guids list) = guids list
wide_value page (parts kind list) = parts 0x101F (map (wide_bytes page) list)

abbrev pub value_by : Option Page → Value → Value
value_by None v = v
value_by (Some page) v = wide_value page v

-- A list with each property in its old place. That is its sorted place, since the new kind is the next above the old one.
abbrev pub converted_prop : ℕ → List Prop → Prop → Prop
converted_prop page props p = if is_to_convert props p then record { key = p.key; value = value_by (page_of page) p.value } else p

abbrev pub converted_props : ℕ → List Prop → List Prop
converted_props page props = map (converted_prop page props) props

-- A message that stands in one of a page.
abbrev mutual
  pub converted_in : ℕ → Message → Message
  converted_in outer (message props recipients attachments) =
      message (converted_props (page_in outer props) props) (map (converted_props (page_in outer props)) recipients) (converted_below (page_in outer props) attachments)

  pub converted_below : ℕ → Attachments → Attachments
  converted_below page no_more = no_more
  converted_below page (attached props body others) = attached (converted_props page props) (converted_body page body) (converted_below page others)

  pub converted_body : ℕ → Body → Body
  converted_body page nothing = nothing
  converted_body page (embedded inner) = embedded (converted_in page inner)
  converted_body page (stored store) = stored store

-- the tree with all its texts in 16-bit units, where each is mapped
abbrev pub converted : Message → Message
converted t = converted_in FIRST_PAGE t

-- ---- what isn't mapped

-- the first byte that isn't, by its place; n is the number of the property
abbrev pub bad_byte : ℕ → ℕ → ℕ → Option ℕ → List Unmapped
bad_byte page n element None = []
bad_byte page n element (Some at) = record { why = at_byte; property = capped n; element = element; at = at; page = page } ∷ []

-- elements from a number on
abbrev pub bad_elements : ℕ → ℕ → Page → ℕ → List (List ℕ) → List Unmapped
bad_elements page n known element [] = []
bad_elements page n known element (x ∷ more) = bad_byte page n element (bad_place known x) ++ bad_elements page n known (element + 1) more

abbrev pub bad_value : ℕ → ℕ → Option Page → Value → List Unmapped
bad_value page n None v = record { why = at_page; property = capped n; element = 0; at = 0; page = page } ∷ []
bad_value page n (Some known) (number kind bits) = []
bad_value page n (Some known) (guid set) = []
bad_value page n (Some known) (bytes kind x) = bad_byte page n 0 (bad_place known x)
bad_value page n (Some known) (numbers kind list) = []
bad_value page n (Some known) (guids list) = []
bad_value page n (Some known) (parts kind list) = bad_elements page n known 0 list

abbrev pub bad_prop : ℕ → List Prop → ℕ → Prop → List Unmapped
bad_prop page props n p = if is_to_convert props p then bad_value page n (page_of page) p.value else []

-- those of a list, from number n on
abbrev pub bad_from : ℕ → List Prop → ℕ → List Prop → List Unmapped
bad_from page props n [] = []
bad_from page props n (p ∷ ps) = bad_prop page props n p ++ bad_from page props (n + 1) ps

abbrev pub bad_props : ℕ → ℕ → List Prop → List Unmapped
bad_props page n props = bad_from page props n props

abbrev pub bad_recipients : ℕ → ℕ → List (List Prop) → List Unmapped
bad_recipients page n [] = []
bad_recipients page n (props ∷ others) = bad_props page n props ++ bad_recipients page (n + length props) others

-- how many properties a message has, with all below it
abbrev mutual
  pub props_in : Message → ℕ
  props_in (message props recipients attachments) = length props + sum_by length recipients + props_below attachments

  pub props_below : Attachments → ℕ
  props_below no_more = 0
  props_below (attached props body others) = length props + props_in_body body + props_below others

  pub props_in_body : Body → ℕ
  props_in_body nothing = 0
  props_in_body (embedded inner) = props_in inner
  props_in_body (stored store) = 0

-- A message whose first property has the number n: its own properties, its recipients', and attachment by attachment
-- its properties and those of what is embedded in it.
abbrev mutual
  pub bad_in : ℕ → ℕ → Message → List Unmapped
  bad_in outer n (message props recipients attachments) =
      bad_props (page_in outer props) n props
      ++ (bad_recipients (page_in outer props) (n + length props) recipients
      ++ bad_below (page_in outer props) (n + (length props + sum_by length recipients)) attachments)

  pub bad_below : ℕ → ℕ → Attachments → List Unmapped
  bad_below page n no_more = []
  bad_below page n (attached props body others) =
      (bad_props page n props ++ bad_body page (n + length props) body)
      ++ bad_below page (n + (length props + props_in_body body)) others

  pub bad_body : ℕ → ℕ → Body → List Unmapped
  bad_body page n nothing = []
  bad_body page n (embedded inner) = bad_in page n inner
  bad_body page n (stored store) = []

-- all that isn't mapped, in the order of the properties, and the first of that
abbrev pub unmapped_in : Message → List Unmapped
unmapped_in t = bad_in FIRST_PAGE 0 t

abbrev pub first_unmapped : Message → Option Unmapped
first_unmapped t = first_of_list (unmapped_in t)
