-- The message that a TNEF stream means. [MS-OXTNEF 2.1.3, 2.2]
use Rattle.std.specs.Prelude.{◌≡◌, ◌⊎◌, ℕ, zero, suc, ◌+◌, ◌==◌, ◌&&◌, ◌||◌, not, Bool, true, false, if◌then◌else◌, List, [], ◌∷◌, ◌++◌, map, reverse, take, drop, Option, Some, None, Err, filter, filter_map, take_while, zip, bytes_eq}
use Rattle.std.specs.List.{flat_map, list_any}
use Rattle.carrier_model.specs.Outcomes.{moved}
use Rattle.carrier_model.specs.Reasons.{TOO_DEEP, NO_ATTACHMENT, DOUBLE_ATTRIBUTE, BAD_INTERFACE}
use Rattle.carrier_model.specs.Stores.{store_file, IsStoreFile}
use Rattle.carrier_model.specs.Trail.{Fault, Test, test, first_fault}
use Rattle.tnef_model.specs.Attributes.{Attr, Attrs, AttrsFault}
use Rattle.carrier_model.specs.Grammar.{Form, Means, gives, and_then, choice, Whole, inside}
use Rattle.carrier_model.specs.Sorted.{choose, with_elements}
use Rattle.carrier_model.specs.Keys.{key_cmp, is_id}
use Rattle.carrier_model.specs.Values.{Prop, prop_cmp}
use Rattle.carrier_model.specs.Tree.{Message, message, Body, nothing, embedded, stored, Attached, attachments_from, GREATEST_LEVEL}
use Rattle.carrier_model.specs.FileTrees.{Store}
use Rattle.tnef_model.specs.TnefLists.{PropList, prop_list, recipient_lists}
use Rattle.tnef_model.specs.LegacyAttributes.{MESSAGE_PROPS, RECIPIENTS, RENDERING, ATTACHMENT, is_message_id, is_attachment_id, legacy_prop}
use Rattle.carrier_model.specs.Meanings.{Held, Meaning, Passed, held_message, held_store}

-- ---- what one attribute gives

-- the list of a message, the lists of its recipients, the list of an attachment with its body, or nothing but
-- what the attribute stands for by itself
pub data Gift : Type 0 where
  no_gift : Gift
  message_list : (props : List Prop) → Gift
  recipients : (lists : List (List Prop)) → Gift
  attachment : (props : List Prop) → (body : Body) → Gift

pub record Part : Type 0 where
  pub gift : Gift
  pub passed : List Passed

abbrev pub part : Gift → List Passed → Part
part gift passed = record { gift = gift; passed = passed }

abbrev pub with_inner : PropList → Option Held → Part
with_inner l None = part (attachment l.props nothing) l.passed
with_inner l (Some h) = part (attachment l.props h.body) (l.passed ++ h.passed)

-- what is in the Object of an attachment's list, where it has one
abbrev pub inner_of : Whole Held → Option (ℕ × List ℕ) → Form (Option Held)
inner_of objects None = gives None
inner_of objects (Some x) = and_then (inside objects x.0 x.1) (λ h. gives (Some h))

-- The bytes of an attribute. What stands behind a list is not looked at.
unfoldable pub content : Whole Held → Attr → Form Part
content objects a =
    choice (a.id == MESSAGE_PROPS) (and_then (prop_list false) (λ l. gives (part (message_list l.props) l.passed)))
    (choice (a.id == RECIPIENTS) (and_then recipient_lists (λ lists. gives (part (recipients (map (λ l. l.props) lists)) (flat_map (λ l. l.passed) lists))))
    (choice (a.id == ATTACHMENT) (and_then (prop_list true) (λ l. and_then (inner_of objects l.object) (λ h. gives (with_inner l h))))
    (choice (is_message_id a.id || is_attachment_id a.id) (gives (part no_gift []))
    (gives (part no_gift ((true, a.id, a.offset) ∷ []))))))

-- ---- attributes in order

abbrev pub has_attr : ℕ → Attr → Bool
has_attr n a = a.id == n

-- an attribute of the same message or of the same attachment has the id; each attachment begins anew
abbrev pub is_there : List Attr → Attr → Bool
is_there before a =
    if is_message_id a.id then list_any (has_attr a.id) before
    else (is_attachment_id a.id && list_any (has_attr a.id) (take_while (λ b. not (has_attr RENDERING b)) (reverse before)))

-- the tests of an attribute behind others
abbrev pub place_tests : List Attr → Attr → List Test
place_tests before a =
    test (not (is_attachment_id a.id) || ((a.id == RENDERING) || list_any (has_attr RENDERING) before)) NO_ATTACHMENT a.offset
    ∷ test ((a.id == RENDERING) || not (is_there before a)) DOUBLE_ATTRIBUTE a.offset
    ∷ []

-- an attribute may stand behind others, and gives a part
pub record Stands (objects : Whole Held) (before : List Attr) (a : Attr) (p : Part) : Type 0 where
  pub place : first_fault (place_tests before a) ≡ None
  pub means : Means (content objects a) (a.offset + 9) a.bytes p

-- it may not, or its bytes fail
abbrev pub AttrFails : Whole Held → List Attr → Attr → Fault → Type 0
AttrFails objects before a g = (first_fault (place_tests before a) ≡ Some g) ⊎ ((first_fault (place_tests before a) ≡ None) × (content objects a).fails (a.offset + 9) a.bytes g)

-- each attribute stands behind those before it, and gives its part
abbrev pub AllStand : Whole Held → List Attr → List Attr → List Part → Type 0
AllStand objects before [] [] = Unit {0}
AllStand objects before [] (p ∷ ps) = ⊥
AllStand objects before (a ∷ l) [] = ⊥
AllStand objects before (a ∷ l) (p ∷ ps) = Stands objects before a p × AllStand objects (before ++ a ∷ []) l ps

-- behind attributes that stand one fails
pub record FailsBehind (objects : Whole Held) (l : List Attr) (g : Fault) : Type 0 where
  pub before : List Attr
  pub parts : List Part
  pub a : Attr
  pub others : List Attr
  pub all : l ≡ before ++ a ∷ others
  pub stand : AllStand objects [] before parts
  pub fails : AttrFails objects before a g

-- ---- the message of attributes and their parts

abbrev pub Read : Type 0
Read = Attr × Part

-- the list that a part gives, none where it gives none
abbrev pub props_in : Gift → List Prop
props_in no_gift = []
props_in (message_list props) = props
props_in (recipients lists) = []
props_in (attachment props body) = props

abbrev pub recipients_in : Gift → List (List Prop)
recipients_in no_gift = []
recipients_in (message_list props) = []
recipients_in (recipients lists) = lists
recipients_in (attachment props body) = []

abbrev pub body_in : Gift → Body
body_in no_gift = nothing
body_in (message_list props) = nothing
body_in (recipients lists) = nothing
body_in (attachment props body) = body

abbrev pub or_else : Body → Body → Body
or_else nothing other = other
or_else (embedded inner) other = embedded inner
or_else (stored store) other = stored store

-- the body of an attachment, given by one of its attributes
abbrev pub body_among : List Read → Body
body_among [] = nothing
body_among (r ∷ others) = or_else (body_in r.1.gift) (body_among others)

-- the properties that attributes stand for by themselves
abbrev pub derived : List Read → List Prop
derived = filter_map (λ r. legacy_prop r.0.id r.0.bytes)

abbrev pub has_key_of : List Prop → Prop → Bool
has_key_of props p = list_any (λ q. choose (key_cmp q.key p.key) false true false) props

-- a list and the derived properties whose id it does not have, sorted
abbrev pub joined : List Prop → List Prop → List Prop
joined props more = with_elements prop_cmp props (filter (λ p. not (has_key_of props p)) more)

-- a message or a store in an attachment stands for its data
abbrev pub beside : Body → List Prop → List Prop
beside nothing more = more
beside (embedded inner) more = filter (λ p. not (is_id 0x3701 p.key)) more
beside (stored store) more = filter (λ p. not (is_id 0x3701 p.key)) more

abbrev pub attached_by : List Read → Attached
attached_by reads = (joined (flat_map (λ r. props_in r.1.gift) reads) (beside (body_among reads) (derived reads)), body_among reads)

-- the attributes of each attachment: one that begins it and those up to the next such
abbrev pub groups : List Read → List (List Read)
groups [] = []
groups (r ∷ others) = if has_attr RENDERING r.0 then (r ∷ take_while (λ o. not (has_attr RENDERING o.0)) others) ∷ groups others else groups others

-- the message's own attributes, and then those of each attachment
abbrev pub message_by : List Read → Message
message_by reads =
    let own = filter (λ r. is_message_id r.0.id) reads in
    message
    (joined (flat_map (λ r. props_in r.1.gift) own) (derived own))
    (flat_map (λ r. recipients_in r.1.gift) own)
    (attachments_from (map attached_by (groups (filter (λ r. is_attachment_id r.0.id) reads))))

abbrev pub meaning_by : List Read → Meaning
meaning_by reads = record { message = message_by reads; passed = flat_map (λ r. r.1.passed) reads }

-- ---- streams

-- the stream at an offset means this, where Objects mean what `objects` says
pub record StreamMeans (objects : Whole Held) (at : ℕ) (bytes : List ℕ) (m : Meaning) : Type 0 where
  pub attrs : List Attr
  pub there : Attrs at bytes attrs
  pub parts : List Part
  pub stand : AllStand objects [] attrs parts
  pub meaning : m ≡ meaning_by (zip attrs parts)

-- the attributes stand there as bytes, and one of them fails
pub record MessageFails (objects : Whole Held) (at : ℕ) (bytes : List ℕ) (g : Fault) : Type 0 where
  pub attrs : List Attr
  pub there : Attrs at bytes attrs
  pub fails : FailsBehind objects attrs g

abbrev pub stream : Whole Held → Whole Meaning
stream objects = record {
  means = StreamMeans objects;
  fails = λ at bytes g. AttrsFault at bytes g ⊎ MessageFails objects at bytes g;
}

-- {00020307-0000-0000-C000-000000000046}: a message follows
abbrev pub IID_MESSAGE : List ℕ
IID_MESSAGE = 0x07 ∷ 0x03 ∷ 0x02 ∷ 0x00 ∷ 0x00 ∷ 0x00 ∷ 0x00 ∷ 0x00 ∷ 0xC0 ∷ 0x00 ∷ 0x00 ∷ 0x00 ∷ 0x00 ∷ 0x00 ∷ 0x00 ∷ 0x46 ∷ []

-- {0000000B-0000-0000-C000-000000000046}: an OLE storage follows
abbrev pub IID_STORAGE : List ℕ
IID_STORAGE = 0x0B ∷ 0x00 ∷ 0x00 ∷ 0x00 ∷ 0x00 ∷ 0x00 ∷ 0x00 ∷ 0x00 ∷ 0xC0 ∷ 0x00 ∷ 0x00 ∷ 0x00 ∷ 0x00 ∷ 0x00 ∷ 0x00 ∷ 0x46 ∷ []

abbrev pub has_id : List ℕ → List ℕ → Bool
has_id interface bytes = bytes_eq (take 16 bytes) interface

-- what is refused where it begins
abbrev pub refused : ℕ → Whole Held
refused reason = record { means = λ at bytes h. ⊥; fails = λ at bytes g. g ≡ (reason, at) }

-- the bytes behind an interface's id are held
abbrev pub behind_interface : {X : Type 0} → (X → Held) → Whole X → Whole Held
behind_interface {X} held w = record {
  means = λ at bytes h. (x : X) × w.means (at + 16) (drop 16 bytes) x × (h ≡ held x);
  fails = λ at bytes g. w.fails (at + 16) (drop 16 bytes) g;
}

-- a compound file that is a store
abbrev pub store_whole : Whole Store
store_whole = record {
  means = λ at bytes x. IsStoreFile bytes x;
  fails = λ at bytes g. moved at (store_file bytes) ≡ Err g;
}

-- a message's interface, a store's, or neither
abbrev pub by_interface : Whole Held → Bool → Bool → Whole Held
by_interface messages true store = messages
by_interface messages false true = behind_interface held_store store_whole
by_interface messages false false = refused BAD_INTERFACE

-- The Object of an attachment: an interface's id, and what stands behind it.
abbrev pub object_by : Whole Held → List ℕ → Whole Held
object_by messages bytes = by_interface messages (has_id IID_MESSAGE bytes) (has_id IID_STORAGE bytes)

abbrev pub object_with : Whole Held → Whole Held
object_with messages = record {
  means = λ at bytes h. (object_by messages bytes).means at bytes h;
  fails = λ at bytes g. (object_by messages bytes).fails at bytes g;
}

-- a message in which at most n levels of messages lie
unfoldable pub message_within : ℕ → Whole Meaning
message_within zero = stream (object_with (refused TOO_DEEP))
message_within (suc n) = stream (object_with (behind_interface held_message (message_within n)))

-- the bytes are a carrier of the message, with things passed over
abbrev pub TnefCarrier : List ℕ → Message → List Passed → Type 0
TnefCarrier bytes t passed = (message_within GREATEST_LEVEL).means 0 bytes (record { message = t; passed = passed })

abbrev pub TnefFault : List ℕ → Fault → Type 0
TnefFault bytes g = (message_within GREATEST_LEVEL).fails 0 bytes g
