-- Lists that were read.
use Rattle.std.specs.Prelude.{◌≡◌, ℕ, false, ◌==◌, ◌&&◌, ◌||◌, if◌then◌else◌, List, [], ◌++◌, drop, length, take, Option, Some, None, filter_map, Result, Ok}
use Rattle.carrier_model.specs.Kinds.{OBJECT, ATTACHED_OBJECT}
use Rattle.carrier_model.specs.Meanings.{Passed}
use Rattle.carrier_model.specs.Lists.{first_of_list}
use Rattle.carrier_model.specs.Lookups.{Found}
use Rattle.carrier_model.specs.Sorted.{with_elements}
use Rattle.carrier_model.specs.Trail.{Fault}
use Rattle.carrier_model.specs.Values.{prop_cmp}
use Rattle.msg_model.specs.MsgProps as plain
use Rattle.msg_model.specs.MsgValues.{PropEntry, kind_in}
use Rattle.msg_props.specs.declared.reading.Section.{Section}
use Rattle.prop_values.specs.declared.props.Part.{Part}
use Rattle.prop_values.specs.declared.props.Part.TheVariants.{Top, Embedded, Recipient, Attachment}

abbrev pub part_of : Part → plain.Part
part_of Top = plain.top
part_of Embedded = plain.embedded_message
part_of Recipient = plain.recipient
part_of Attachment = plain.attachment

-- the list, with what was passed over behind so many things that had been passed over before
abbrev pub section_seen : List Passed → List Passed → Section → plain.Section
section_seen old new s = record { props = s.props; embedded = s.embedded; passed = drop (length old) new }

-- what an entry passes over, whatever stands before it
abbrev pub passed_by : plain.Part → PropEntry → Option Passed
passed_by part e =
    if plain.is_attachment part && (e.tag == ATTACHED_OBJECT) then None
    else (if (kind_in e == OBJECT) || plain.is_passed_kind (kind_in e) then Some (false, e.tag, e.place) else None)

abbrev pub entries_at : plain.Part → Option Found → List PropEntry
entries_at part None = []
entries_at part (Some f) = plain.prop_entries part f.stream

-- Behind what was passed over before stands what some first entries of the list pass over, in their order.
pub record PassedAtFront (part : plain.Part) (list : Option Found) (old new : List Passed) : Type 0 where
  pub k : ℕ
  pub passed : new ≡ old ++ filter_map (passed_by part) (take k (entries_at part list))

-- behind what was passed over before stands what the first so many entries pass over
pub record PassedOfFirst (part : plain.Part) (entries : List PropEntry) (old new : List Passed) : Type 0 where
  pub k : ℕ
  pub passed : new ≡ old ++ filter_map (passed_by part) (take k entries)

-- the entries give items, and the list is theirs
pub record IsSectionOf (read : Result (List plain.Item) Fault) (old new : List Passed) (s : Section) : Type 0 where
  pub items : List plain.Item
  pub turn : read ≡ Ok items
  pub props : s.props ≡ with_elements prop_cmp [] (filter_map plain.prop_in items)
  pub embedded : s.embedded ≡ first_of_list (filter_map plain.embedding_in items)
  pub passed : new ≡ old ++ filter_map plain.passed_in items
