-- Which entry each property index has.
use Rattle.std.specs.Prelude.{◌≡◌, ℕ, ◌+◌, ◌<◌, ◌≤◌, Bool, true, false, if◌then◌else◌, List, [], ◌∷◌, length, get_or, slice_get, Option, None}
use Rattle.std.specs.Option.{option_map}
use Rattle.carrier_model.specs.Keys.{Name}
use Rattle.msg_model.specs.NameMap.{Pair, name_for}
use Rattle.msg_nameid.specs.declared.slots.Slot.{Slot}
use Rattle.msg_nameid.specs.declared.slots.Slot.TheVariants.{Free, Nameless, Named}

-- what an index has; those behind the last are free
abbrev pub slot_at : List Slot → ℕ → Slot
slot_at slots k = get_or slots k Free

abbrev pub is_taken : Slot → Bool
is_taken Free = false
is_taken Nameless = true
is_taken (Named place) = true

-- how many are taken
abbrev pub count_taken : List Slot → ℕ
count_taken [] = 0
count_taken (slot ∷ slots) = (if is_taken slot then 1 else 0) + count_taken slots

-- the name of the pair at its place
abbrev pub name_in : List Pair → Slot → Option Name
name_in pairs Free = None
name_in pairs Nameless = None
name_in pairs (Named place) = option_map (λ p. p.1) (slice_get pairs place)

-- its place is one of so many
abbrev pub IsPlaced : ℕ → Slot → Type 0
IsPlaced count Free = Unit {0}
IsPlaced count Nameless = Unit {0}
IsPlaced count (Named place) = place < count

-- The slots lead from each id to its name.
pub record IsTable (slots : List Slot) (pairs : List Pair) : Type 0 where
  pub few : length slots ≤ 0x8000
  pub counted : length pairs ≤ count_taken slots
  pub placed : (k : ℕ) → IsPlaced (length pairs) (slot_at slots k)
  pub low : (n : ℕ) → n < 0x8000 → name_for pairs n ≡ None
  pub each : (k : ℕ) → name_for pairs (0x8000 + k) ≡ name_in pairs (slot_at slots k)
