-- The elements of values, in print.
use Rattle.std.specs.Prelude.{ℕ, zero, suc, ◌-◌, List, [], map, codes}
use Rattle.carrier_model.specs.KeyTexts.{guid_text}
use Rattle.carrier_model.specs.Values.{Value, number, guid, bytes, numbers, guids, parts}
use Rattle.text_model.specs.ValueTexts.{number_text, bytes_text}

-- the texts of the elements, where a value has several
abbrev pub elements_of : Value → List (List ℕ)
elements_of (number kind bits) = []
elements_of (guid set) = []
elements_of (bytes kind x) = []
elements_of (numbers kind list) = map (number_text (kind - 0x1000)) list
elements_of (guids list) = map guid_text list
elements_of (parts kind list) = map (bytes_text (kind - 0x1000)) list

-- what stands before the element at a place
abbrev pub separator : ℕ → List ℕ
separator zero = []
separator (suc k) = codes ", "
