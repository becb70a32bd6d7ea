-- The names of a .msg file: for which names the ids of its named properties stand. [MS-OXMSG 2.2.3]
use Rattle.std.specs.Prelude.{◌≡◌, ◌≢◌, ◌⊎◌, ℕ, ◌+◌, ◌-◌, ◌*◌, ◌/◌, ◌%◌, ◌≤◌, ◌==◌, Bool, true, false, not, ◌&&◌, nat_eq, nat_le, if◌then◌else◌, List, [], ◌∷◌, length, map, take, drop, get_or, find, Option, Some, None, filter_map, Result, Ok}
use Rattle.std.specs.Option.{option_map}
use Rattle.std.specs.List.{range_with_len, AllByRecursion, IsDistinct}
use Rattle.carrier_model.specs.Trail.{Fault}
use Rattle.carrier_model.specs.Reasons.{BAD_GUID_INDEX, BAD_NAME_OFFSET, BAD_NAME_LENGTH, DOUBLE_ID, BAD_PROPERTY_INDEX}
use Rattle.carrier_model.specs.Outcomes.{◌>>=◌, check, mapped}
use Rattle.carrier_model.specs.Chains.{member}
use Rattle.carrier_model.specs.Turns.{in_turn}
use Rattle.carrier_model.specs.Sectors.{u32_of}
use Rattle.carrier_model.specs.Streams.{Stream}
use Rattle.carrier_model.specs.Keys.{Name, numbered, texted}
use Rattle.msg_model.specs.WrittenNames.{PS_MAPI, PS_PUBLIC_STRINGS}
use Rattle.carrier_model.specs.Bytes.{units_of}

-- the GUIDs, the entries and the texts of the names
pub record NameStreams : Type 0 where
  pub guids : Stream
  pub entries : Stream
  pub texts : Stream

-- An entry: a number, or where a text lies; a word of three numbers; and where the entry lies in the file.
pub record NameEntry : Type 0 where
  pub identifier : ℕ
  pub word : ℕ
  pub place : ℕ

-- the k-th entry
abbrev pub name_entry : Stream → ℕ → NameEntry
name_entry s k = record { identifier = u32_of s.bytes (8 * k); word = u32_of s.bytes (8 * k + 4); place = get_or s.places (8 * k) 0 }

-- the entries in order; a rest of fewer than 8 bytes is none
abbrev pub name_entries : Stream → List NameEntry
name_entries s = map (name_entry s) (range_with_len 0 (length s.bytes / 8))

-- whether the name is a text
abbrev pub is_text : NameEntry → Bool
is_text e = e.word % 2 == 1

-- which property set
abbrev pub set_index : NameEntry → ℕ
set_index e = e.word / 2 % 0x8000

-- which property; its id is this index behind 8000
abbrev pub property_index : NameEntry → ℕ
property_index e = e.word / 0x10000

abbrev pub id_of_entry : NameEntry → ℕ
id_of_entry e = 0x8000 + property_index e

-- The indexes 1 and 2 stand for fixed sets, those from 3 on for the GUIDs of the stream in order.
abbrev pub set_at : List ℕ → ℕ → List ℕ
set_at guids index = if index == 1 then PS_MAPI else (if index == 2 then PS_PUBLIC_STRINGS else take 16 (drop (16 * (index - 3)) guids))

-- whether the stream has the GUIDs up to that of an index
abbrev pub has_set : List ℕ → ℕ → Bool
has_set guids index = nat_le (16 * (index - 2)) (length guids)

-- the size of a text of at most 255 units, where so many bytes follow
abbrev pub is_text_size : ℕ → ℕ → Bool
is_text_size room size = (size % 2 == 0) && (nat_le size 510 && nat_le size room)

-- The units of the text that lies at a place of the stream of texts: its size, and so many bytes. The entry lies at
-- `place`.
unfoldable pub text_at : Stream → ℕ → ℕ → Result (List ℕ) Fault
text_at texts at place = do
  inside ← check (nat_le (at + 4) (length texts.bytes)) BAD_NAME_OFFSET place
  whole ← check (is_text_size (length texts.bytes - (at + 4)) (u32_of texts.bytes at)) BAD_NAME_LENGTH (get_or texts.places at 0)
  Ok (units_of (take (u32_of texts.bytes at) (drop (at + 4) texts.bytes)))

unfoldable pub name_of : NameStreams → NameEntry → Result Name Fault
name_of s e = do
  known ← check (has_set s.guids.bytes (set_index e)) BAD_GUID_INDEX e.place
  (if is_text e then mapped (texted (set_at s.guids.bytes (set_index e))) (text_at s.texts e.identifier e.place)
      else Ok (numbered (set_at s.guids.bytes (set_index e)) e.identifier))

-- what an entry gives: its property index and, where the property set is not 0, a name
pub record Given : Type 0 where
  pub index : ℕ
  pub name : Option Name

unfoldable pub named_by : NameStreams → NameEntry → Result (Option Name) Fault
named_by s e = if set_index e == 0 then Ok None else mapped Some (name_of s e)

-- no earlier entry has the same index
abbrev pub is_new_index : List Given → NameEntry → Bool
is_new_index before e = not (member (property_index e) (map (λ g. g.index) before))

unfoldable pub given_by : NameStreams → List Given → NameEntry → Result Given Fault
given_by s before e = do
  low ← check (nat_le (property_index e) 0x7FFF) BAD_PROPERTY_INDEX e.place
  new ← check (is_new_index before e) DOUBLE_ID e.place
  name ← named_by s e
  Ok (record { index = property_index e; name = name })

-- an id and the name for which it stands
abbrev pub Pair : Type 0
Pair = ℕ × Name

abbrev pub pair_in : Given → Option Pair
pair_in g = option_map (λ name. (0x8000 + g.index, name)) g.name

-- The pairs that the entries give, in order, or the first fault.
unfoldable pub pairs_of : NameStreams → Result (List Pair) Fault
pairs_of s = mapped (filter_map pair_in) (in_turn (given_by s) [] (name_entries s.entries))

-- the pairs of names whose ids follow one another
abbrev pub pairs_from : ℕ → List Name → List Pair
pairs_from k [] = []
pairs_from k (name ∷ names) = (0x8000 + k, name) ∷ pairs_from (k + 1) names

-- the name of an id
abbrev pub name_for : List Pair → ℕ → Option Name
name_for pairs n = option_map (λ p. p.1) (find (λ p. nat_eq p.0 n) pairs)

-- ---- the same as a relation

-- the text that lies there: an even number of bytes, at most 510, all within the stream
pub record IsTextAt (texts : List ℕ) (at : ℕ) (units : List ℕ) : Type 0 where
  pub inside : at + 4 ≤ length texts
  pub even : u32_of texts at % 2 ≡ 0
  pub few : u32_of texts at ≤ 510
  pub whole : at + 4 + u32_of texts at ≤ length texts
  pub is : units ≡ units_of (take (u32_of texts at) (drop (at + 4) texts))

-- an entry stands for a name
abbrev pub StandsFor : NameStreams → NameEntry → Name → Type 0
StandsFor s e (numbered set number) = (is_text e ≡ false) × (has_set s.guids.bytes (set_index e) ≡ true) × (set ≡ set_at s.guids.bytes (set_index e)) × (number ≡ e.identifier)
StandsFor s e (texted set units) = (is_text e ≡ true) × (has_set s.guids.bytes (set_index e) ≡ true) × (set ≡ set_at s.guids.bytes (set_index e)) × IsTextAt s.texts.bytes e.identifier units

-- The pairs of entries, in order: one of the property set 0 has none, each other one has its id and a name.
abbrev pub ArePairs : NameStreams → List NameEntry → List Pair → Type 0
ArePairs s [] pairs = pairs ≡ []
ArePairs s (e ∷ others) [] = (set_index e ≡ 0) × ArePairs s others []
ArePairs s (e ∷ others) (p ∷ pairs) = ((set_index e ≡ 0) × ArePairs s others (p ∷ pairs)) ⊎ ((set_index e ≢ 0) × (p.0 ≡ id_of_entry e) × StandsFor s e p.1 × ArePairs s others pairs)

-- the names of a file
pub record NamePairs (s : NameStreams) (pairs : List Pair) : Type 0 where
  pub low : AllByRecursion (λ e. property_index e ≤ 0x7FFF) (name_entries s.entries)
  pub distinct : IsDistinct nat_eq (map property_index (name_entries s.entries))
  pub each : ArePairs s (name_entries s.entries) pairs
