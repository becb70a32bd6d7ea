-- What an attribute changes.
use Rattle.std.specs.Prelude.{◌≡◌, ℕ, Bool, true, false, List, [], ◌∷◌, ◌++◌, Option, Some, None, IsSomeAnd, MatchOption}
use Rattle.std.specs.Option.{option_to_list}
use Rattle.tnef_model.specs.LegacyAttributes.{legacy_prop}
use Rattle.tnef_model.specs.TnefMessage.{joined, beside}
use Rattle.carrier_model.specs.Tree.{Attached, Body, nothing, embedded, stored}
use Rattle.carrier_model.specs.Values.{Prop}
use Rattle.tnef_message.specs.declared.gifts.Gift.{Gift}
use Rattle.tnef_message.specs.declared.gifts.Gift.TheVariants.{Nothing, MessageList, RecipientTable, AttachmentList}
use Rattle.tnef_message.specs.declared.drafts.Pending.{Pending}
use Rattle.msg_tree.specs.Meaning.{list_of, body_of}
use Rattle.tnef_message.specs.declared.drafts.Draft.{Draft}
use Rattle.tnef_message.specs.HeldBytes.{held_bytes}

-- the list of an attachment
abbrev pub list_after : Gift → List Prop → List Prop
list_after Nothing list = list
list_after (MessageList props) list = list
list_after (RecipientTable lists) list = list
list_after (AttachmentList props held) list = props

-- what it holds
abbrev pub body_after : Gift → Body → Body
body_after Nothing body = body
body_after (MessageList props) body = body
body_after (RecipientTable lists) body = body
body_after (AttachmentList props held) body = body_of held_bytes held

-- the list of a message
abbrev pub own_after : Gift → List Prop → List Prop
own_after Nothing list = list
own_after (MessageList props) list = props
own_after (RecipientTable lists) list = list
own_after (AttachmentList props held) list = list

-- its recipients
abbrev pub lists_after : Gift → List (List Prop) → List (List Prop)
lists_after Nothing lists = lists
lists_after (MessageList props) lists = lists
lists_after (RecipientTable others) lists = others
lists_after (AttachmentList props held) lists = lists

-- an attachment with a list, derived properties and a body
abbrev pub attached_as : List Prop → List Prop → Body → Attached
attached_as list derived body = (joined list (beside body derived), body)

-- the attachment that is being read, once it is closed
abbrev pub closed : Option Pending → List Attached
closed None = []
closed (Some p) = attached_as p.section.list p.section.derived.items (body_of held_bytes p.body) ∷ []

-- an attribute with an id and bytes was entered, and what its bytes gave
pub record Entered (n : ℕ) (bytes : List ℕ) (gift : Gift) (p q : Pending) : Type 0 where
  pub seen : q.section.seen.items ≡ p.section.seen.items ++ n ∷ []
  pub derived : q.section.derived.items ≡ p.section.derived.items ++ option_to_list (legacy_prop n bytes)
  pub list : q.section.list ≡ list_after gift p.section.list
  pub body : body_of held_bytes q.body ≡ body_after gift (body_of held_bytes p.body)

-- nothing was entered
pub record IsFresh (p : Pending) : Type 0 where
  pub seen : p.section.seen.items ≡ []
  pub list : p.section.list ≡ []
  pub derived : p.section.derived.items ≡ []
  pub body : body_of held_bytes p.body ≡ nothing

-- an attribute of the message itself
pub record OwnEntered (n : ℕ) (bytes : List ℕ) (gift : Gift) (d e : Draft) : Type 0 where
  pub seen : e.own.seen.items ≡ d.own.seen.items ++ n ∷ []
  pub derived : e.own.derived.items ≡ d.own.derived.items ++ option_to_list (legacy_prop n bytes)
  pub list : e.own.list ≡ own_after gift d.own.list
  pub lists : e.recipients ≡ lists_after gift d.recipients
  pub attachments : list_of held_bytes e.attachments ≡ list_of held_bytes d.attachments
  pub current : e.current ≡ d.current

-- the first attribute of a new attachment
pub record Opened (n : ℕ) (bytes : List ℕ) (gift : Gift) (d e : Draft) : Type 0 where
  pub own : e.own ≡ d.own
  pub recipients : e.recipients ≡ d.recipients
  pub current : IsSomeAnd e.current (λ q. (p : Pending) × IsFresh p × Entered n bytes gift p q)
  pub attachments : list_of held_bytes e.attachments ≡ list_of held_bytes d.attachments ++ closed d.current

-- another attribute of the attachment that is being read
pub record CurrentEntered (n : ℕ) (bytes : List ℕ) (gift : Gift) (d e : Draft) : Type 0 where
  pub own : e.own ≡ d.own
  pub recipients : e.recipients ≡ d.recipients
  pub current : MatchOption d.current (Unit {0}) (λ p. IsSomeAnd e.current (Entered n bytes gift p))
  pub attachments : list_of held_bytes e.attachments ≡ list_of held_bytes d.attachments

-- a message or a store stands for the data of its attachment
abbrev pub stands_for_data : Body → Bool
stands_for_data nothing = false
stands_for_data (embedded inner) = true
stands_for_data (stored store) = true
