-- The shapes of values, and the kinds that have them.
use Rattle.std.specs.Prelude.{◌≡◌, ◌⊎◌, ℕ, ◌+◌, nat_eq, true, false, Option, Some, None}
use Rattle.carrier_model.specs.Values.{width_in, number_widths, numbers_widths, is_bytes_kind}
use Rattle.carrier_model.specs.Kinds.{is_number_kind, is_numbers_kind, null_of}
use Rattle.prop_values.specs.Kinds.{kind_number}
use Rattle.prop_values.specs.declared.shapes.Shape.{Shape}
use Rattle.prop_values.specs.declared.shapes.Shape.TheVariants.{Number, Guid, Bytes, Numbers, Guids, Parts}

abbrev pub IsWidth : ℕ → Type 0
IsWidth n = (n ≡ 2) ⊎ ((n ≡ 4) ⊎ (n ≡ 8))

abbrev pub HasShape : ℕ → Shape → Type 0
HasShape kind (Number width) = (is_number_kind kind ≡ true) × (width_in number_widths kind ≡ width) × IsWidth width
HasShape kind Guid = kind ≡ 0x0048
HasShape kind Bytes = (is_number_kind kind ≡ false) × (nat_eq kind 0x0048 ≡ false) × (is_bytes_kind kind ≡ true)
HasShape kind (Numbers width) = (is_number_kind kind ≡ false) × (nat_eq kind 0x0048 ≡ false) × (is_bytes_kind kind ≡ false) × (is_numbers_kind kind ≡ true) × (width_in numbers_widths kind ≡ width) × IsWidth width
HasShape kind Guids = kind ≡ 0x1048
HasShape kind (Parts single) = (is_number_kind kind ≡ false) × (nat_eq kind 0x0048 ≡ false) × (is_bytes_kind kind ≡ false) × (is_numbers_kind kind ≡ false) × (nat_eq kind 0x1048 ≡ false) × (kind ≡ kind_number single + 0x1000) × (is_bytes_kind (kind_number single) ≡ true)

-- the width of one number, and of each of several
abbrev pub number_width : Shape → ℕ
number_width (Number width) = width
number_width Guid = 0
number_width Bytes = 0
number_width (Numbers width) = 0
number_width Guids = 0
number_width (Parts single) = 0

abbrev pub numbers_width : Shape → ℕ
numbers_width (Number width) = 0
numbers_width Guid = 0
numbers_width Bytes = 0
numbers_width (Numbers width) = width
numbers_width Guids = 0
numbers_width (Parts single) = 0

-- the bytes of one element, where they are fixed
abbrev pub element_width : Shape → Option ℕ
element_width (Number width) = Some width
element_width Guid = Some 16
element_width Bytes = None
element_width (Numbers width) = Some width
element_width Guids = Some 16
element_width (Parts single) = None

-- the bytes of the null behind each of several texts
abbrev pub part_null : Shape → ℕ
part_null (Number width) = 0
part_null Guid = 0
part_null Bytes = 0
part_null (Numbers width) = 0
part_null Guids = 0
part_null (Parts single) = null_of (kind_number single)
