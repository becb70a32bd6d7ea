-- The storages of a message, one by one.
use Rattle.std.specs.Prelude.{◌≡◌, ℕ, Bool, true, false, ◌⊎◌, List, Contains, None, replicate}
use Rattle.carrier_model.specs.FileTrees.{FileTree, storage, no_file, and_files, NO_CLASS}
use Rattle.carrier_model.specs.Keys.{Name}
use Rattle.carrier_model.specs.Tree.{Attached}
use Rattle.carrier_model.specs.Values.{Prop}
use Rattle.cfb_list.specs.Grown.{grown}
use Rattle.cfb_list.specs.Listed.{Listed}
use Rattle.msg_model.specs.StreamNames.{ATTACHMENT_NAME, RECIPIENT_NAME, numbered_name}
use Rattle.msg_model.specs.WrittenMsg.{body_files, list_files, object_word}
use Rattle.prop_values.specs.declared.props.Part.TheVariants.{Top, Embedded, Recipient, Attachment}
use Rattle.prop_values.specs.declared.props.Part.{Part}

-- a tree was added behind what is in a storage
abbrev pub Adds : Listed → Listed → ℕ → FileTree → Type 0
Adds old new at files = new ≡ record old { storages = grown old.storages at files }

-- a list is that of a message, and whether it is the top one
abbrev pub IsOfMessage : Part → Type 0
IsOfMessage part = (part ≡ Top) ⊎ (part ≡ Embedded)

abbrev pub is_top : Part → Bool
is_top Top = true
is_top Embedded = false
is_top Recipient = false
is_top Attachment = false

-- names are among others
abbrev pub Known : List Name → List Name → Type 0
Known names own = (name : Name) → Contains own name → Contains names name

-- the storage of a recipient
abbrev pub recipient_tree : List Name → ℕ → List Prop → FileTree
recipient_tree names i props = storage (numbered_name RECIPIENT_NAME i) NO_CLASS (list_files names (replicate 8 0) props None) no_file

-- that of an attachment, and what is in it
abbrev pub inside_attachment : List Name → Attached → FileTree
inside_attachment names x = and_files (list_files names (replicate 8 0) x.0 (object_word x.1)) (body_files names x.1)

abbrev pub attachment_tree : List Name → ℕ → Attached → FileTree
attachment_tree names i x = storage (numbered_name ATTACHMENT_NAME i) NO_CLASS (inside_attachment names x) no_file
