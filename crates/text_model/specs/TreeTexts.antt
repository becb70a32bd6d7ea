-- The texts that tell a tree: every property of every message, or how much there is. The objects are those of
-- MS-OXMSG, section 2.2; the lines are this program's own.
use Rattle.std.specs.Prelude.{ℕ, ◌+◌, Bool, true, false, List, [], ◌∷◌, ◌++◌, length, replicate, unwrap_or, codes, decimal}
use Rattle.std.specs.List.{flat_map}
use Rattle.carrier_model.specs.FileTrees.{stream_count, byte_count, Store}
use Rattle.carrier_model.specs.KeyTexts.{upper, hex_digits, key_text}
use Rattle.carrier_model.specs.KindNames.{kind_name}
use Rattle.carrier_model.specs.Totals.{capped, all_messages, all_recipients, all_attachments, all_properties}
use Rattle.carrier_model.specs.Tree.{Message, message, Attachments, no_more, attached, Body, nothing, embedded, stored, depth, names_of}
use Rattle.carrier_model.specs.Meanings.{Passed}
use Rattle.text_model.specs.ValueTexts.{value_text}
use Rattle.carrier_model.specs.Values.{Prop, kind_of}

-- ---- lines

-- a text behind so many spaces, and a line feed
abbrev pub line : ℕ → List ℕ → List ℕ
line indent text = replicate indent 0x20 ++ (text ++ 0x0A ∷ [])

-- a word and a number
abbrev pub counted : List ℕ → ℕ → List ℕ
counted word n = word ++ (codes " " ++ decimal n)

-- ---- all properties

-- key, kind and value
abbrev pub prop_text : Prop → List ℕ
prop_text p = key_text p.key ++ (codes " " ++ (unwrap_or (kind_name (kind_of p.value)) [] ++ (codes " " ++ value_text p.value)))

abbrev pub prop_lines : ℕ → List Prop → List ℕ
prop_lines indent = flat_map (λ p. line indent (prop_text p))

-- the recipients from a number on
abbrev pub recipient_lines : ℕ → ℕ → List (List Prop) → List ℕ
recipient_lines indent i [] = []
recipient_lines indent i (props ∷ others) =
    line indent (counted (codes "recipient") i) ++ (prop_lines (indent + 2) props ++ recipient_lines indent (i + 1) others)

-- how many streams a store has, and how many bytes are in them
abbrev pub store_text : Store → List ℕ
store_text s =
    counted (codes "storage") (capped (stream_count s.members))
    ++ (codes " " ++ (counted (codes "streams") (capped (byte_count s.members)) ++ codes " bytes"))

-- A message at an indent; what is in it stands by two further in.
abbrev mutual
  pub message_lines : ℕ → Message → List ℕ
  message_lines indent (message props recipients attachments) =
      line indent (codes "message")
      ++ (prop_lines (indent + 2) props ++ (recipient_lines (indent + 2) 0 recipients ++ attachment_lines (indent + 2) 0 attachments))

  pub attachment_lines : ℕ → ℕ → Attachments → List ℕ
  attachment_lines indent i no_more = []
  attachment_lines indent i (attached props body others) =
      line indent (counted (codes "attachment") i)
      ++ (prop_lines (indent + 2) props ++ (body_lines (indent + 2) body ++ attachment_lines indent (i + 1) others))

  pub body_lines : ℕ → Body → List ℕ
  body_lines indent nothing = []
  body_lines indent (embedded inner) = message_lines indent inner
  body_lines indent (stored store) = line indent (store_text store)

-- every message with every property
abbrev pub show_text : Message → List ℕ
show_text t = message_lines 0 t

-- ---- how much there is

-- the totals over all levels, each at most the greatest number of 64 bits
abbrev pub count_lines : Message → List ℕ
count_lines t =
    line 0 (counted (codes "messages") (capped (all_messages t)))
    ++ (line 0 (counted (codes "recipients") (capped (all_recipients t)))
    ++ (line 0 (counted (codes "attachments") (capped (all_attachments t)))
    ++ (line 0 (counted (codes "properties") (capped (all_properties t)))
    ++ (line 0 (counted (codes "names") (length (names_of t)))
    ++ line 0 (counted (codes "depth") (depth t))))))

abbrev pub passed_word : Bool → List ℕ
passed_word true = codes "passed attribute "
passed_word false = codes "passed property "

-- an attribute by its id or a property by its tag, and where it stands
abbrev pub passed_line : Passed → List ℕ
passed_line p = line 0 (passed_word p.0 ++ (hex_digits upper 8 p.1 ++ (codes " at " ++ decimal p.2)))

-- which of the two carriers of a tree the bytes are
pub data Carrier : Type 0 where
  msg_file : Carrier
  tnef_stream : Carrier

abbrev pub carrier_word : Carrier → List ℕ
carrier_word msg_file = codes "carrier msg"
carrier_word tnef_stream = codes "carrier tnef"

-- the carrier, the totals, and what was passed over in reading order
abbrev pub check_text : Carrier → Message → List Passed → List ℕ
check_text carrier t passed = line 0 (carrier_word carrier) ++ (count_lines t ++ flat_map passed_line passed)
