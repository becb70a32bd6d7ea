-- Elements of multiple texts and binaries, each by itself.
use Rattle.std.specs.Prelude.{◌≡◌, ℕ, ◌||◌, Bool, true, false, List, length, Option, Some, None, is_some}
use Rattle.carrier_model.specs.Kinds.{null_of, without_null}
use Rattle.carrier_model.specs.Lookups.{bytes_at, size_place_at}
use Rattle.carrier_model.specs.Reasons.{BAD_ELEMENT}
use Rattle.carrier_model.specs.Trail.{Fault}
use Rattle.carrier_model.specs.Values.{IsBytes}
use Rattle.cfb_sectors.specs.Seen.{bytes_of}
use Rattle.cfb_sectors.specs.declared.view.StreamView.{StreamView}
use Rattle.msg_model.specs.MsgValues.{Element, fits_kind, means_empty}

-- an element's bytes; `single` is its kind
abbrev pub part_in : ℕ → Element → List ℕ
part_in single x = without_null (null_of single) (bytes_at x.stream)

abbrev pub is_good : ℕ → Element → Bool
is_good single x = fits_kind single (length (bytes_at x.stream))

abbrev pub is_present : ℕ → Element → Bool
is_present single x = is_some x.stream || means_empty single x.size

-- the bytes of an element that is there or empty; or it is missing
abbrev pub IsElement : ℕ → Element → Option StreamView → Type 0
IsElement single x (Some v) = (is_good single x ≡ true) × (is_present single x ≡ true) × (bytes_of v ≡ part_in single x) × IsBytes single (part_in single x)
IsElement single x None = (is_good single x ≡ true) × (is_present single x ≡ false)

-- the fault of an element of another length
abbrev pub IsBad : ℕ → Element → Fault → Type 0
IsBad single x g = (is_good single x ≡ false) × (g ≡ (BAD_ELEMENT, size_place_at x.stream))
