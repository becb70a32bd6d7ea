-- What the kinds of values are in either carrier: numbers, several numbers, texts with their null, and the Object of an
-- attachment. [MS-OXCDATA 2.11.1]
use Rattle.std.specs.Prelude.{ℕ, Bool, nat_lt, ◌-◌, ◌&&◌, ◌||◌, nat_le, unwrap_or, ◌==◌, if◌then◌else◌, List, length, take, drop, not, true, false}
use Rattle.carrier_model.specs.Values.{number_widths, width_in, numbers_widths, width_of, is_bytes_kind, Prop, kind_of}
use Rattle.carrier_model.specs.Bytes.{le_number}
use Rattle.carrier_model.specs.Sorted.{choose}
use Rattle.carrier_model.specs.Keys.{id, key_cmp}

-- the kind of an Object, and the tag of the one that an attachment has
abbrev pub OBJECT : ℕ
OBJECT = 0x000D

abbrev pub ATTACHED_OBJECT : ℕ
ATTACHED_OBJECT = 0x3701000D

-- kinds of one number, of several numbers, and of any value
abbrev pub is_number_kind : ℕ → Bool
is_number_kind kind = nat_lt 0 (width_in number_widths kind)

abbrev pub is_numbers_kind : ℕ → Bool
is_numbers_kind kind = nat_lt 0 (width_in numbers_widths kind)

abbrev pub is_kind : ℕ → Bool
is_kind kind = nat_lt 0 (unwrap_or (width_of kind) 0) || (is_bytes_kind kind || (nat_le 0x1000 kind && is_bytes_kind (kind - 0x1000)))

-- the bytes of the null at a text's end, by the kind
abbrev pub null_of : ℕ → ℕ
null_of kind = if kind == 0x001E then 1 else (if kind == 0x001F then 2 else 0)

-- without the last n bytes where these are zero
abbrev pub without_null : ℕ → List ℕ → List ℕ
without_null n x = if nat_le n (length x) && (le_number (drop (length x - n) x) == 0) then take (length x - n) x else x

-- a number's bits; a Boolean is 1 where its bytes are not both zero
abbrev pub bits_of : ℕ → List ℕ → ℕ
bits_of kind x = if (kind == 0x000B) && not (le_number x == 0) then 1 else le_number x

-- whether a property of an attachment comes before its Object, by key and type
abbrev pub comes_before_object : Prop → Bool
comes_before_object p = choose (key_cmp p.key (id 0x3701)) true (nat_lt (kind_of p.value) OBJECT) false
