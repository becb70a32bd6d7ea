-- The texts of keys, as ASCII characters. The property sets with labels are those of MS-OXPROPS, section 1.3.2; the
-- order of a GUID's bytes in print is that of MS-DTYP, section 2.3.4.3.
use Rattle.std.specs.Prelude.{ℕ, zero, suc, ◌+◌, ◌-◌, ◌/◌, ◌%◌, ◌==◌, ◌&&◌, nat_lt, nat_le, not, List, [], ◌∷◌, ◌++◌, take, drop, reverse, Bool, Option, None, if◌then◌else◌, unwrap_or, codes}
use Rattle.std.specs.List.{flat_map}
use Rattle.std.specs.Str.{bytes_eq}
use Rattle.carrier_model.specs.Bytes.{number32}
use Rattle.carrier_model.specs.Lists.{looked_up}
use Rattle.carrier_model.specs.Keys.{Name, numbered, texted, Key, id, named, set_of}

-- the character of the digit ten, in either case
abbrev pub lower : ℕ
lower = 0x61

abbrev pub upper : ℕ
upper = 0x41

-- the character of a hexadecimal digit
abbrev pub hex_digit : (letter digit : ℕ) → ℕ
hex_digit letter digit = if nat_lt digit 10 then 0x30 + digit else letter + digit - 10

-- the last so many hexadecimal digits of a number
abbrev pub hex_digits : (letter count n : ℕ) → List ℕ
hex_digits letter zero n = []
hex_digits letter (suc count) n = hex_digits letter count (n / 16) ++ hex_digit letter (n % 16) ∷ []

-- the first three fields of a GUID are little-endian in a file, and are printed with the highest byte first
abbrev pub printing_order : List ℕ → List ℕ
printing_order set = reverse (take 4 set) ++ reverse (take 2 (drop 4 set)) ++ reverse (take 2 (drop 6 set)) ++ drop 8 set

-- 32 digits, in groups of 8, 4, 4, 4 and 12
abbrev pub grouped : List ℕ → List ℕ
grouped digits =
    take 8 digits ++ codes "-" ++ take 4 (drop 8 digits) ++ codes "-" ++ take 4 (drop 12 digits) ++ codes "-"
    ++ take 4 (drop 16 digits) ++ codes "-" ++ drop 20 digits

abbrev pub guid_text : List ℕ → List ℕ
guid_text set = codes "{" ++ grouped (flat_map (hex_digits lower 2) (printing_order set)) ++ codes "}"

-- The property sets with labels. Their GUIDs differ in the first field alone.
abbrev pub labels : List (ℕ × List ℕ)
labels =
    (0x00020328, codes "PS_MAPI") ∷
    (0x00020329, codes "PS_PUBLIC_STRINGS") ∷
    (0x00020386, codes "PS_INTERNET_HEADERS") ∷
    (0x00062002, codes "PSETID_Appointment") ∷
    (0x00062003, codes "PSETID_Task") ∷
    (0x00062004, codes "PSETID_Address") ∷
    (0x00062008, codes "PSETID_Common") ∷ []

-- the twelve bytes behind the first field
abbrev pub label_family : List ℕ
label_family = 0x00 ∷ 0x00 ∷ 0x00 ∷ 0x00 ∷ 0xC0 ∷ 0x00 ∷ 0x00 ∷ 0x00 ∷ 0x00 ∷ 0x00 ∷ 0x00 ∷ 0x46 ∷ []

abbrev pub label_among : List (ℕ × List ℕ) → ℕ → Option (List ℕ)
label_among = looked_up

abbrev pub label_of : List ℕ → Option (List ℕ)
label_of set = if bytes_eq (drop 4 set) label_family then label_among labels (number32 set) else None

-- a property set by its label, or by its GUID
abbrev pub set_text : List ℕ → List ℕ
set_text set = unwrap_or (label_of set) (guid_text set)

-- The printing characters of ASCII but the quote and the backslash stand for themselves.
abbrev pub is_plain : ℕ → Bool
is_plain unit = nat_le 0x20 unit && nat_le unit 0x7E && not (unit == 0x22) && not (unit == 0x5C)

abbrev pub unit_text : ℕ → List ℕ
unit_text unit = if is_plain unit then unit ∷ [] else 0x5C ∷ hex_digits upper 4 unit

abbrev pub quoted_text : List ℕ → List ℕ
quoted_text units = 0x22 ∷ flat_map unit_text units ++ 0x22 ∷ []

-- the text of a name within its set
abbrev pub label_text : Name → List ℕ
label_text (numbered set number) = hex_digits upper 8 number
label_text (texted set units) = quoted_text units

abbrev pub name_text : Name → List ℕ
name_text name = set_text (set_of name) ++ 0x2F ∷ label_text name

abbrev pub key_text : Key → List ℕ
key_text (id number) = hex_digits upper 4 number
key_text (named name) = name_text name
