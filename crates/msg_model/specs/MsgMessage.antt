-- The message that a .msg file means. [MS-OXMSG 2.1 to 2.4]
use Rattle.std.specs.Prelude.{◌≡◌, ℕ, zero, suc, ◌+◌, ◌*◌, ◌-◌, ◌==◌, ◌&&◌, ◌||◌, Bool, true, false, nat_le, if◌then◌else◌, List, [], ◌++◌, length, map, take, drop, fold, Option, Some, None, is_some, option_to_list, Result, Ok, Err}
use Rattle.std.specs.Option.{option_map}
use Rattle.std.specs.List.{flat_map, list_all, AllZip}
use Rattle.std.specs.Ordering.{nat_cmp, on}
use Rattle.std.specs.declared.cmp.Ordering.{Ordering}
use Rattle.carrier_model.specs.Trail.{Fault}
use Rattle.carrier_model.specs.Reasons.{TOO_DEEP, MISSING_STORAGE}
use Rattle.carrier_model.specs.Outcomes.{◌>>=◌, mapped}
use Rattle.carrier_model.specs.Turns.{each, found}
use Rattle.carrier_model.specs.Sorted.{with_elements}
use Rattle.carrier_model.specs.Streams.{Stream}
use Rattle.carrier_model.specs.Files.{Children, none, storage, stream, Files, folded, open_file}
use Rattle.carrier_model.specs.Holds.{FileHolds}
use Rattle.carrier_model.specs.Lookups.{Found, same_name, storage_at, stream_named, storage_named}
use Rattle.carrier_model.specs.Tree.{Message, message, nothing, Attached, attachments_from, GREATEST_LEVEL}
use Rattle.carrier_model.specs.FileTrees.{Store}
use Rattle.carrier_model.specs.Kinds.{ATTACHED_OBJECT}
use Rattle.carrier_model.specs.Meanings.{Passed, Meaning, Held, held_message, held_store}
use Rattle.msg_model.specs.NameMap.{NameStreams, Pair, pairs_of, NamePairs}
use Rattle.msg_model.specs.StreamNames.{GUID_STREAM, ENTRY_STREAM, TEXT_STREAM, value_name, ATTACHMENT_NAME, NAME_MAP, RECIPIENT_NAME}
use Rattle.carrier_model.specs.Stores.{PROPERTIES, store_in, StoreMeans}
use Rattle.msg_model.specs.MsgValues.{Streams}
use Rattle.msg_model.specs.MsgProps.{Part, top, embedded_message, recipient, attachment, Section, props_of, MsgProps}

-- ---- the names of a file

-- the streams of a storage; of an absent one there are none
abbrev pub streams_of : Option Files → Streams
streams_of None name = None
streams_of (Some s) name = stream_named s.children name

-- an absent stream is empty
abbrev pub stream_or_empty : Option Found → Stream
stream_or_empty None = record { bytes = []; places = [] }
stream_or_empty (Some f) = f.stream

abbrev pub name_streams_in : Streams → NameStreams
name_streams_in streams = record {
  guids = stream_or_empty (streams GUID_STREAM);
  entries = stream_or_empty (streams ENTRY_STREAM);
  texts = stream_or_empty (streams TEXT_STREAM);
}

abbrev pub name_streams : Files → NameStreams
name_streams root = name_streams_in (streams_of (storage_named root.children NAME_MAP))

-- ---- recipients and attachments

-- hexadecimal digits in lower case, and their number
abbrev pub is_hex : ℕ → Bool
is_hex unit = (nat_le 0x30 unit && nat_le unit 0x39) || (nat_le 0x61 unit && nat_le unit 0x66)

abbrev pub hex_number : List ℕ → ℕ
hex_number digits = fold (λ n unit. 16 * n + (if nat_le unit 0x39 then unit - 0x30 else unit - 0x57)) 0 digits

-- the number in a name that is a prefix and eight hexadecimal digits
abbrev pub number_in : List ℕ → List ℕ → Option ℕ
number_in prefix name =
    let digits = drop (length prefix) (folded name) in
    if same_name (take (length prefix) name) prefix && ((length digits == 8) && list_all is_hex digits) then Some (hex_number digits) else None

-- the storages with such names, each with its number
abbrev pub numbered_in : List ℕ → Children → List (ℕ × Files)
numbered_in prefix none = []
numbered_in prefix (storage tag below rest) = option_to_list (option_map (λ n. (n, storage_at tag below)) (number_in prefix tag.name)) ++ numbered_in prefix rest
numbered_in prefix (stream tag s rest) = numbered_in prefix rest

-- by rising number
abbrev pub number_cmp : ℕ × Files → ℕ × Files → Ordering
number_cmp = on (λ p. p.0) nat_cmp

abbrev pub in_order : List (ℕ × Files) → List (ℕ × Files)
in_order = with_elements number_cmp []

abbrev pub numbered : List ℕ → Files → List Files
numbered prefix s = map (λ p. p.1) (in_order (numbered_in prefix s.children))

-- ---- messages

-- the list of a storage
abbrev pub list_in : Part → List Pair → Files → Result Section Fault
list_in part pairs s = props_of part pairs s.place (stream_named s.children)

-- an attachment, with what was passed over in it
pub record Carried : Type 0 where
  pub attached : Attached
  pub passed : List Passed

abbrev pub carried : Section → Option Held → Carried
carried l None = record { attached = (l.props, nothing); passed = l.passed }
carried l (Some h) = record { attached = (l.props, h.body); passed = l.passed ++ h.passed }

-- What was passed over stands in the order of the lists, that of an embedded message behind the list of its attachment.
abbrev pub meaning_of : Section → List Section → List Carried → Meaning
meaning_of own recipients attachments = record {
  message = message own.props (map (λ l. l.props) recipients) (attachments_from (map (λ a. a.attached) attachments));
  passed = own.passed ++ (flat_map (λ l. l.passed) recipients ++ flat_map (λ a. a.passed) attachments);
}

-- what an embedded message means, by the place of the attachment's entry for it and by its storage
abbrev pub Inner : Type 0
Inner = ℕ → Files → Result Meaning Fault

-- a storage with a list of its own is a message, and one without is a store
abbrev pub is_message : Files → Bool
is_message s = is_some (stream_named s.children PROPERTIES)

abbrev pub held_by : Inner → Bool → ℕ → Files → Result Held Fault
held_by inner true place below = mapped held_message (inner place below)
held_by inner false place below = mapped held_store (store_in below)

-- What an attachment holds that has an entry for it at `place`: the storage beside the list.
unfoldable pub held_in : Inner → Files → ℕ → Result Held Fault
held_in inner s place = do
  below ← found (storage_named s.children (value_name ATTACHED_OBJECT)) (MISSING_STORAGE, place)
  held_by inner (is_message below) place below

unfoldable pub body_in : Inner → Files → Option ℕ → Result (Option Held) Fault
body_in inner s None = Ok None
body_in inner s (Some place) = mapped Some (held_in inner s place)

unfoldable pub attachment_in : List Pair → Inner → Files → Result Carried Fault
attachment_in pairs inner s = do
  l ← list_in attachment pairs s
  body ← body_in inner s l.embedded
  Ok (carried l body)

unfoldable pub message_with : List Pair → Inner → Part → Files → Result Meaning Fault
message_with pairs inner part s = do
  own ← list_in part pairs s
  recipients ← each (list_in recipient pairs) (numbered RECIPIENT_NAME s)
  attachments ← each (attachment_in pairs inner) (numbered ATTACHMENT_NAME s)
  Ok (meaning_of own recipients attachments)

-- the message of a storage in which at most n levels of messages lie
unfoldable pub message_in : ℕ → List Pair → Part → Files → Result Meaning Fault
message_in zero pairs part s = message_with pairs (λ place below. Err (TOO_DEEP, place)) part s
message_in (suc n) pairs part s = message_with pairs (λ place below. message_in n pairs embedded_message below) part s

-- the names, and then the message of the root
unfoldable pub files_meaning : Files → Result Meaning Fault
files_meaning root = do
  pairs ← pairs_of (name_streams root)
  message_in GREATEST_LEVEL pairs top root

-- what a file means, or its first fault
unfoldable pub file_meaning : List ℕ → Result Meaning Fault
file_meaning b = do
  root ← open_file b
  files_meaning root

-- the first fault of a file
abbrev pub MsgFault : List ℕ → Fault → Type 0
MsgFault b g = file_meaning b ≡ Err g

-- ---- the same as a relation

-- what the storage of an embedded message means
abbrev pub Within : Type 1
Within = Files → Meaning → Type 0

abbrev pub HoldsBy : Within → Bool → Files → Held → Type 0
HoldsBy within true below h = (m : Meaning) × within below m × (h ≡ held_message m)
HoldsBy within false below h = (x : Store) × StoreMeans below x × (h ≡ held_store x)

-- an attachment's storage has a message or a store, in a storage beside the attachment's list
pub record HasObject (within : Within) (s : Files) (h : Held) : Type 0 where
  pub below : Files
  pub there : storage_named s.children (value_name ATTACHED_OBJECT) ≡ Some below
  pub means : HoldsBy within (is_message below) below h

-- there is one exactly where the list has an entry for it
abbrev pub HasBody : Within → Files → Option ℕ → Option Held → Type 0
HasBody within s None None = Unit {0}
HasBody within s None (Some h) = ⊥
HasBody within s (Some place) None = ⊥
HasBody within s (Some place) (Some h) = HasObject within s h

pub record AttachmentMeans (pairs : List Pair) (within : Within) (s : Files) (a : Carried) : Type 0 where
  pub list : Section
  pub there : MsgProps attachment pairs (stream_named s.children) list
  pub body : Option Held
  pub inner : HasBody within s list.embedded body
  pub is : a ≡ carried list body

-- a storage means a message: its list, then its recipients, then its attachments
pub record MessageMeans (pairs : List Pair) (within : Within) (part : Part) (s : Files) (m : Meaning) : Type 0 where
  pub own : Section
  pub there : MsgProps part pairs (stream_named s.children) own
  pub recipients : List Section
  pub each_recipient : AllZip (λ r l. MsgProps recipient pairs (stream_named r.children) l) (numbered RECIPIENT_NAME s) recipients
  pub attachments : List Carried
  pub each_attachment : AllZip (AttachmentMeans pairs within) (numbered ATTACHMENT_NAME s) attachments
  pub is : m ≡ meaning_of own recipients attachments

-- a storage means a message in which at most n levels of messages lie
abbrev pub MsgMeans : ℕ → List Pair → Part → Files → Meaning → Type 0
MsgMeans zero pairs part s m = MessageMeans pairs (λ below inner. ⊥) part s m
MsgMeans (suc n) pairs part s m = MessageMeans pairs (λ below inner. MsgMeans n pairs embedded_message below inner) part s m

-- the files mean the message, by the names of the file
pub record FilesMean (root : Files) (m : Meaning) : Type 0 where
  pub pairs : List Pair
  pub named : NamePairs (name_streams root) pairs
  pub means : MsgMeans GREATEST_LEVEL pairs top root m

-- the bytes are a carrier of the message, with things passed over
pub record MsgCarrier (b : List ℕ) (t : Message) (passed : List Passed) : Type 0 where
  pub root : Files
  pub holds : FileHolds b root
  pub means : FilesMean root (record { message = t; passed = passed })
