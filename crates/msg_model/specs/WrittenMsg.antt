-- The storages and streams that a message is written as, in a .msg file. [MS-OXMSG 2.1, 2.2, 2.4]
use Rattle.std.specs.Prelude.{ℕ, ◌+◌, ◌-◌, ◌*◌, ◌==◌, not, if◌then◌else◌, Bool, true, false, Option, Some, None, List, [], ◌∷◌, ◌++◌, length, replicate, filter}
use Rattle.std.specs.List.{flat_map}
use Rattle.carrier_model.specs.Bytes.{le32, le_bytes}
use Rattle.carrier_model.specs.FileTrees.{FileTree, no_file, stream, storage, and_files, streams_from, NO_CLASS}
use Rattle.carrier_model.specs.Layout.{layout, MESSAGE_CLASS}
use Rattle.carrier_model.specs.Stores.{PROPERTIES}
use Rattle.carrier_model.specs.Keys.{Name, Key, id, named, id_of}
use Rattle.carrier_model.specs.Kinds.{comes_before_object, null_of}
use Rattle.carrier_model.specs.Tree.{Message, message, Attachments, no_more, attached, Body, nothing, embedded, stored, listed, names_of}
use Rattle.carrier_model.specs.Values.{Value, number, guid, bytes, numbers, guids, parts, Prop, kind_of, number_widths, numbers_widths, width_in}
use Rattle.msg_model.specs.StreamNames.{NAME_MAP, RECIPIENT_NAME, ATTACHMENT_NAME, value_name, element_name, numbered_name}
use Rattle.msg_model.specs.WrittenNames.{name_map_files}

-- ---- tags

abbrev pub number_of_key : List Name → Key → ℕ
number_of_key names (id n) = n
number_of_key names (named name) = id_of names name

-- the id in the upper half, the type in the lower
abbrev pub tag_of : List Name → Prop → ℕ
tag_of names p = number_of_key names p.key * 65536 + kind_of p.value

abbrev pub OBJECT_TAG : ℕ
OBJECT_TAG = 0x3701000D

-- ---- the streams of values

abbrev pub with_null : ℕ → List ℕ → List ℕ
with_null kind x = x ++ replicate (null_of kind) 0

-- the length of an element of a multiple text, its null counted, or of a Binary, with a word of zeros behind it
abbrev pub length_words : ℕ → List ℕ → List ℕ
length_words kind x = if kind == 0x0102 then le32 (length x) ++ le32 0 else le32 (length (with_null kind x))

abbrev pub element_streams : ℕ → ℕ → ℕ → List (List ℕ) → List (List ℕ × List ℕ)
element_streams tag kind i [] = []
element_streams tag kind i (x ∷ others) = (element_name tag i, with_null kind x) ∷ element_streams tag kind (i + 1) others

-- the streams of a value: none of a number, which stands in its entry
abbrev pub value_streams : ℕ → Value → List (List ℕ × List ℕ)
value_streams tag (number kind bits) = []
value_streams tag (guid set) = (value_name tag, set) ∷ []
value_streams tag (bytes kind x) = (value_name tag, x) ∷ []
value_streams tag (numbers kind list) = (value_name tag, flat_map (le_bytes (width_in numbers_widths kind)) list) ∷ []
value_streams tag (guids list) = (value_name tag, flat_map (λ set. set) list) ∷ []
value_streams tag (parts kind list) =
    (value_name tag, flat_map (length_words (kind - 0x1000)) list) ∷ element_streams tag (kind - 0x1000) 0 list

abbrev pub props_streams : List Name → List Prop → List (List ℕ × List ℕ)
props_streams names = flat_map (λ p. value_streams (tag_of names p) p.value)

-- ---- entries

-- readable and writable
abbrev pub FLAGS : ℕ
FLAGS = 6

-- the size that stands for a value with a stream: of a text with its null, of any other that of its first stream
abbrev pub value_size : Value → ℕ
value_size (number kind bits) = 0
value_size (guid set) = length set
value_size (bytes kind x) = length (with_null kind x)
value_size (numbers kind list) = length list * width_in numbers_widths kind
value_size (guids list) = 16 * length list
value_size (parts kind list) = length list * (if kind == 0x1102 then 8 else 4)

-- the eight bytes of an entry's value: a number, or a size and a reserved word
abbrev pub value_field : Value → List ℕ
value_field (number kind bits) = le_bytes (width_in number_widths kind) bits ++ replicate (8 - width_in number_widths kind) 0
value_field (guid set) = le32 (value_size (guid set)) ++ le32 0
value_field (bytes kind x) = le32 (value_size (bytes kind x)) ++ le32 0
value_field (numbers kind list) = le32 (value_size (numbers kind list)) ++ le32 0
value_field (guids list) = le32 (value_size (guids list)) ++ le32 0
value_field (parts kind list) = le32 (value_size (parts kind list)) ++ le32 0

abbrev pub entry_bytes : List Name → Prop → List ℕ
entry_bytes names p = le32 (tag_of names p) ++ (le32 FLAGS ++ value_field p.value)

-- an object without a size; the reserved word says what it is
abbrev pub object_entry : ℕ → List ℕ
object_entry word = le32 OBJECT_TAG ++ (le32 FLAGS ++ (le32 0xFFFFFFFF ++ le32 word))

-- the reserved word of a message or of a store
abbrev pub object_word : Body → Option ℕ
object_word nothing = None
object_word (embedded inner) = Some 1
object_word (stored store) = Some 4

-- the entries in list order, the object of an attachment in its place by id and type
abbrev pub entries_bytes : List Name → List Prop → Option ℕ → List ℕ
entries_bytes names props None = flat_map (entry_bytes names) props
entries_bytes names props (Some word) =
    flat_map (entry_bytes names) (filter comes_before_object props)
    ++ (object_entry word ++ flat_map (entry_bytes names) (filter (λ p. not (comes_before_object p)) props))

-- ---- storages

-- a property stream behind its head, and the streams of its values
abbrev pub list_files : List Name → List ℕ → List Prop → Option ℕ → FileTree
list_files names head props object =
    stream PROPERTIES (head ++ entries_bytes names props object) (streams_from (props_streams names props))

-- of a message: the next numbers and the counts of recipients and attachments
abbrev pub message_head : ℕ → ℕ → List ℕ
message_head recipients attachments =
    replicate 8 0 ++ (le32 recipients ++ (le32 attachments ++ (le32 recipients ++ le32 attachments)))

-- of the message at the top there are eight bytes more
abbrev pub head_of : Bool → ℕ → ℕ → List ℕ
head_of true recipients attachments = message_head recipients attachments ++ replicate 8 0
head_of false recipients attachments = message_head recipients attachments

-- the storages of recipients from a number on
abbrev pub recipient_files : List Name → ℕ → List (List Prop) → FileTree
recipient_files names i [] = no_file
recipient_files names i (props ∷ others) =
    storage (numbered_name RECIPIENT_NAME i) NO_CLASS (list_files names (replicate 8 0) props None) (recipient_files names (i + 1) others)

abbrev mutual
  pub message_files : List Name → Bool → Message → FileTree
  message_files names top (message props recipients attachments) =
      and_files (list_files names (head_of top (length recipients) (length (listed attachments))) props None)
      (and_files (recipient_files names 0 recipients) (attachment_files names 0 attachments))

  pub attachment_files : List Name → ℕ → Attachments → FileTree
  attachment_files names i no_more = no_file
  attachment_files names i (attached props body others) =
      storage (numbered_name ATTACHMENT_NAME i) NO_CLASS
      (and_files (list_files names (replicate 8 0) props (object_word body)) (body_files names body))
      (attachment_files names (i + 1) others)

  pub body_files : List Name → Body → FileTree
  body_files names nothing = no_file
  body_files names (embedded inner) = storage (value_name OBJECT_TAG) NO_CLASS (message_files names false inner) no_file
  body_files names (stored store) = storage (value_name OBJECT_TAG) store.class store.members no_file

-- the name map, and the message at the top; embedded messages use the ids of the whole tree
abbrev pub files_of : Message → FileTree
files_of t = storage NAME_MAP NO_CLASS (name_map_files (names_of t)) (message_files (names_of t) true t)

-- the .msg file of a message, in sectors of z bytes
abbrev pub msg_in : ℕ → Message → List ℕ
msg_in z t = layout z MESSAGE_CLASS (files_of t)

-- the canonical .msg file of version 3, and that of version 4
abbrev pub msg_of : Message → List ℕ
msg_of t = msg_in 512 t

abbrev pub msg4_of : Message → List ℕ
msg4_of t = msg_in 4096 t
