-- A message as far as its attributes were read.
use Rattle.std.specs.Prelude.{◌≡◌, ℕ, ◌==◌, Bool, true, false, List, [], ◌∷◌, ◌++◌, map, filter, Option, Some, None}
use Rattle.std.specs.List.{flat_map, list_any}
use Rattle.tnef_model.specs.Attributes.{Attr}
use Rattle.tnef_model.specs.LegacyAttributes.{MESSAGE_PROPS, RECIPIENTS, RENDERING, ATTACHMENT, is_message_id, is_attachment_id}
use Rattle.tnef_model.specs.TnefMessage as plain
use Rattle.tnef_model.specs.TnefMessage.{Read, Part, has_attr, attached_by, groups, recipients_in, body_among}
use Rattle.carrier_model.specs.Tree.{Attached, Body, nothing}
use Rattle.carrier_model.specs.Values.{Prop}
use Rattle.msg_tree.specs.Meaning.{list_of, body_of}
use Rattle.tnef_message.specs.HeldBytes.{held_bytes}
use Rattle.tnef_message.specs.declared.gifts.Gift.{Gift}
use Rattle.tnef_message.specs.declared.gifts.Gift.TheVariants.{Nothing, MessageList, RecipientTable, AttachmentList}
use Rattle.tnef_message.specs.declared.drafts.Pending.{Pending}
use Rattle.tnef_message.specs.declared.drafts.Draft.{Draft}
use Rattle.tnef_message.specs.Sections.{IsSection}

-- ---- what an attribute gave

abbrev pub plain_gift : Gift → plain.Gift
plain_gift Nothing = plain.no_gift
plain_gift (MessageList props) = plain.message_list props
plain_gift (RecipientTable lists) = plain.recipients lists
plain_gift (AttachmentList props body) = plain.attachment props (body_of held_bytes body)

-- only these attributes have lists
abbrev pub Fits : ℕ → Gift → Type 0
Fits n Nothing = Unit {0}
Fits n (MessageList props) = n ≡ MESSAGE_PROPS
Fits n (RecipientTable lists) = n ≡ RECIPIENTS
Fits n (AttachmentList props body) = n ≡ ATTACHMENT

-- ---- attributes that were read

abbrev pub attrs_of : List Read → List Attr
attrs_of reads = map (λ r. r.0) reads

abbrev pub parts_of : List Read → List Part
parts_of reads = map (λ r. r.1) reads

abbrev pub begins : Read → Bool
begins r = has_attr RENDERING r.0

abbrev pub own_of : List Read → List Read
own_of = filter (λ r. is_message_id r.0.id)

abbrev pub of_attachments : List Read → List Read
of_attachments = filter (λ r. is_attachment_id r.0.id)

-- the recipients, one attribute at most giving them
pub record IsTable (reads : List Read) (seen : List ℕ) (lists : List (List Prop)) : Type 0 where
  pub lists_are : lists ≡ flat_map (λ r. recipients_in r.1.gift) reads
  pub no_lists : list_any (λ n. n == RECIPIENTS) seen ≡ false → lists ≡ []

-- what an attachment holds, one attribute at most giving it
pub record IsBody (reads : List Read) (seen : List ℕ) (body : Body) : Type 0 where
  pub body_is : body ≡ body_among reads
  pub no_body : list_any (λ n. n == ATTACHMENT) seen ≡ false → body ≡ nothing

-- no attachment has begun
pub record NoneYet (reads : List Read) (done : List Attached) : Type 0 where
  pub none : list_any begins reads ≡ false
  pub no_reads : of_attachments reads ≡ []
  pub no_done : done ≡ []

-- some attachments are read, and the last that began is being read
pub record OneOpen (reads : List Read) (done : List Attached) (seen : List ℕ) (list derived : List Prop) (body : Body) : Type 0 where
  pub before : List Read
  pub opening : Read
  pub others : List Read
  pub all : reads ≡ before ++ opening ∷ others
  pub opens : begins opening ≡ true
  pub goes_on : list_any begins others ≡ false
  pub done_are : done ≡ map attached_by (groups (of_attachments before))
  pub section : IsSection ATTACHMENT (of_attachments (opening ∷ others)) seen list derived
  pub inside : IsBody (of_attachments (opening ∷ others)) seen body

abbrev pub IsAttached : List Read → List Attached → Option Pending → Type 0
IsAttached reads done None = NoneYet reads done
IsAttached reads done (Some p) = OneOpen reads done p.section.seen.items p.section.list p.section.derived.items (body_of held_bytes p.body)

-- the attributes' own and their attachments, as far as they were read
pub record IsDraft (reads : List Read) (d : Draft) : Type 0 where
  pub own : IsSection MESSAGE_PROPS (own_of reads) d.own.seen.items d.own.list d.own.derived.items
  pub table : IsTable (own_of reads) d.own.seen.items d.recipients
  pub attached : IsAttached reads (list_of held_bytes d.attachments) d.current
