-- The parts of a message's stream.
use Rattle.std.specs.Prelude.{ℕ, ◌++◌, List, All, Contains, None, Some, length}
use Rattle.std.specs.List.{flat_map}
use Rattle.carrier_model.specs.Bytes.{le32}
use Rattle.carrier_model.specs.Keys.{Name}
use Rattle.tnef_model.specs.LegacyAttributes.{ATTACHMENT}
use Rattle.tnef_model.specs.TnefCanonical.{attribute, content_of, front, list_bytes, page_attribute, props_attribute, recipients_attribute, rendering_attribute}
use Rattle.carrier_model.specs.Tree.{Attached}
use Rattle.carrier_model.specs.Values.{Prop}
use Rattle.tnef_writer.specs.declared.write_lists.ListContent.{ListContent}
use Rattle.tnef_writer.specs.declared.write_lists.ListContent.TheVariants.{ListOf, Table}
use Rattle.tnef_props.specs.Named.{HasNames}

-- the list of one attachment
abbrev pub attached_list : List Name → Attached → List ℕ
attached_list names one = list_bytes names one.0 (content_of names one.1)

-- the attributes of one attachment
abbrev pub attachment_bytes : List Name → Attached → List ℕ
attachment_bytes names one = rendering_attribute one.0 ++ attribute 2 ATTACHMENT (attached_list names one)

-- what stands before the attachments
abbrev pub own_bytes : List Name → List Prop → List (List Prop) → List ℕ
own_bytes names props recipients = front ++ (page_attribute props ++ (recipients_attribute names recipients ++ props_attribute names props))

-- each of some names is among the names
abbrev pub Includes : List Name → List Name → Type 0
Includes names some = (x : Name) → Contains some x → Contains names x

-- a list without an Object
abbrev pub list_alone : List Name → List Prop → List ℕ
list_alone names props = list_bytes names props None

-- the count of recipients, and their lists
abbrev pub table_bytes : List Name → List (List Prop) → List ℕ
table_bytes names recipients = le32 (length recipients) ++ flat_map (list_alone names) recipients

abbrev pub content_bytes : {B : Type 0} → List Name → ListContent B → List ℕ
content_bytes names (ListOf props) = list_alone names props.now
content_bytes names (Table recipients) = table_bytes names recipients.now

-- the names of its properties are among the names
abbrev pub ContentIsNamed : {B : Type 0} → List Name → ListContent B → Type 0
ContentIsNamed names (ListOf props) = HasNames names props.now
ContentIsNamed names (Table recipients) = All (HasNames names) recipients.now

-- the list of an attachment with an Object of this value in it
abbrev pub carried_list : List Name → List Prop → List ℕ → List ℕ
carried_list names props value = list_bytes names props (Some value)
