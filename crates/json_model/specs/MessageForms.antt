-- Messages as JSON values: what is written, and what a value is read as, or its first fault.
use Rattle.std.specs.Prelude.{ℕ, zero, suc, if◌then◌else◌, map, List, [], ◌∷◌, Result, Ok, Err, codes}
use Rattle.serde_json.specs.Data.{Data, object, Items, no_items, item, Members, member, no_members, array}
use Rattle.serde_json.specs.Written.{compact_text}
use Rattle.carrier_model.specs.Values.{Prop}
use Rattle.carrier_model.specs.Tree.{Message, message, Attachments, no_more, attached, Body, nothing, embedded, stored, Attached, attachments_from, GREATEST_LEVEL}
use Rattle.json_model.specs.Faults.{JsonFault, form, deep, ◌>>=◌, check, under, fault_here}
use Rattle.json_model.specs.Parts.{has_members, member_at, read_each}
use Rattle.json_model.specs.Properties.{listed_json, props_json, read_props}
use Rattle.json_model.specs.StoreForms.{store_json, read_store}

-- ---- written

-- members of an object, that of a body before or behind the properties as their keys stand
abbrev pub with_store : Data → Members
with_store store = member (codes "store") store no_members

abbrev pub plain_members : List Prop → Members → Members
plain_members props more = member (codes "properties") (props_json props) more

abbrev mutual
  pub json_of : Message → Data
  json_of (message props recipients attachments) =
      object (member (codes "attachments") (array (attachments_json attachments))
      (member (codes "properties") (props_json props)
      (member (codes "recipients") (listed_json (map props_json recipients)) no_members)))

  pub attachments_json : Attachments → Items
  attachments_json no_more = no_items
  attachments_json (attached props body others) = item (object (attachment_members props body)) (attachments_json others)

  pub attachment_members : List Prop → Body → Members
  attachment_members props nothing = plain_members props no_members
  attachment_members props (embedded inner) = member (codes "message") (json_of inner) (plain_members props no_members)
  attachment_members props (stored store) = plain_members props (with_store (store_json store))

-- one attachment
abbrev pub attachment_json : Attached → Data
attachment_json one = object (attachment_members one.0 one.1)

-- the text of a message, without spaces
abbrev pub json_text : Message → List ℕ
json_text t = compact_text (json_of t)

-- ---- read

abbrev pub MESSAGE : List (List ℕ)
MESSAGE = codes "attachments" ∷ codes "properties" ∷ codes "recipients" ∷ []

abbrev pub PLAIN : List (List ℕ)
PLAIN = codes "properties" ∷ []

abbrev pub EMBEDDING : List (List ℕ)
EMBEDDING = codes "message" ∷ codes "properties" ∷ []

abbrev pub STORING : List (List ℕ)
STORING = codes "properties" ∷ codes "store" ∷ []

abbrev pub read_plain : Data → Result Attached JsonFault
read_plain v = do
  a ← member_at (codes "properties") v
  props ← under 0 (read_props a)
  Ok (props, nothing)

-- where a message in an attachment is read by inner
abbrev pub read_embedding : (Data → Result Message JsonFault) → Data → Result Attached JsonFault
read_embedding inner v = do
  a ← member_at (codes "message") v
  m ← under 0 (inner a)
  b ← member_at (codes "properties") v
  props ← under 1 (read_props b)
  Ok (props, embedded m)

abbrev pub read_storing : Data → Result Attached JsonFault
read_storing v = do
  a ← member_at (codes "properties") v
  props ← under 0 (read_props a)
  b ← member_at (codes "store") v
  store ← under 1 (read_store b)
  Ok (props, stored store)

abbrev pub read_attachment : (Data → Result Message JsonFault) → Data → Result Attached JsonFault
read_attachment inner v =
    if has_members PLAIN v then read_plain v
    else (if has_members EMBEDDING v then read_embedding inner v
    else (if has_members STORING v then read_storing v else Err (fault_here form)))

-- the parts of a message, in the order of their keys
abbrev pub read_parts : (Data → Result Message JsonFault) → Data → Result Message JsonFault
read_parts inner v = do
  a ← member_at (codes "attachments") v
  attachments ← under 0 (read_each (read_attachment inner) a)
  b ← member_at (codes "properties") v
  props ← under 1 (read_props b)
  c ← member_at (codes "recipients") v
  recipients ← under 2 (read_each read_props c)
  Ok (message props recipients (attachments_from attachments))

-- a message where so many levels may still be
abbrev pub read_within : ℕ → Data → Result Message JsonFault
read_within zero v = do
  whole ← check (has_members MESSAGE v) form
  Err (fault_here deep)
read_within (suc levels) v = do
  whole ← check (has_members MESSAGE v) form
  read_parts (read_within levels) v

-- what a JSON value is read as, or its first fault
abbrev pub read_json : Data → Result Message JsonFault
read_json = read_within (suc GREATEST_LEVEL)
