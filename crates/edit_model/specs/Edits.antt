-- Edits of a message, and the message that they make. The parts of a message are those of MS-OXMSG, section 2.2; the edits
-- are this program's own.
use Rattle.std.specs.Prelude.{◌≡◌, ℕ, ◌+◌, Bool, true, false, not, List, [], ◌∷◌, ◌++◌, length, slice_get, slice_set, Option, Some, None, Result, Ok, Err, if◌then◌else◌}
use Rattle.std.specs.List.{filter, list_any, remove}
use Rattle.carrier_model.specs.Keys.{Key}
use Rattle.carrier_model.specs.Sorted.{choose, with_element}
use Rattle.carrier_model.specs.Tree.{Message, message, Body, nothing, embedded, stored, Attached, attachments_from, listed}
use Rattle.carrier_model.specs.Trees.{KeyHasUnits}
use Rattle.carrier_model.specs.Values.{Prop, kind_of, prop_cmp, with_pair, IsProp}

-- what has properties in a message: the message itself, the recipient or the attachment of a number, from 0
pub data Spot : Type 0 where
  itself : Spot
  recipient : (number : ℕ) → Spot
  attachment : (number : ℕ) → Spot

-- the way from the top message to another, by the numbers of the attachments that embed them, and a spot in it
pub record Place : Type 0 where
  pub path : List ℕ
  pub spot : Spot

pub data Edit : Type 0 where
  set_prop : (place : Place) → (prop : Prop) → Edit
  remove_prop : (place : Place) → (key : Key) → (kind : ℕ) → Edit
  add_recipient : (path : List ℕ) → Edit
  drop_recipient : (path : List ℕ) → (number : ℕ) → Edit
  drop_attachment : (path : List ℕ) → (number : ℕ) → Edit

-- why an edit can't be done: its message, recipient or attachment isn't there, or its property isn't
pub data Why : Type 0 where
  no_place : Why
  no_property : Why

-- in a do block: the step that gives no value is the answer
infixl 10 ◌>>=◌
abbrev pub ◌>>=◌ : {A B : Type 0} → Result A Why → (A → Result B Why) → Result B Why
Ok x >>= f = f x
Err why >>= f = Err why

-- ---- one list

-- a property has the key and the kind
abbrev pub has_pair : Key → ℕ → Prop → Bool
has_pair key kind p = choose (prop_cmp p (with_pair key kind)) false true false

abbrev pub without_pair : Key → ℕ → List Prop → List Prop
without_pair key kind props = filter (λ p. not (has_pair key kind p)) props

-- with the property in its sorted place, in place of the one of its key and kind
abbrev pub with_prop : Prop → List Prop → Result (List Prop) Why
with_prop p props = Ok (with_element prop_cmp (without_pair p.key (kind_of p.value) props) p)

-- without the property of the key and the kind, which has to be there
abbrev pub without_prop : Key → ℕ → List Prop → Result (List Prop) Why
without_prop key kind props = if list_any (has_pair key kind) props then Ok (without_pair key kind props) else Err no_property

-- the member of a number, which has to be there
abbrev pub there : {A : Type 0} → Option A → Result A Why
there None = Err no_place
there (Some x) = Ok x

-- a list whose member of a number is changed
abbrev pub changed_at : {A : Type 0} → (A → Result A Why) → ℕ → List A → Result (List A) Why
changed_at change number list = do
  member ← there (slice_get list number)
  changed ← change member
  Ok (slice_set list number changed)

-- a list without its member of a number; what follows it moves up
abbrev pub dropped_at : {A : Type 0} → ℕ → List A → Result (List A) Why
dropped_at number list = do
  member ← there (slice_get list number)
  Ok (remove list number)

-- ---- one message

abbrev pub with_recipients : (List (List Prop) → Result (List (List Prop)) Why) → Message → Result Message Why
with_recipients change (message props recipients attachments) = do
  changed ← change recipients
  Ok (message props changed attachments)

abbrev pub with_attachments : (List Attached → Result (List Attached) Why) → Message → Result Message Why
with_attachments change (message props recipients attachments) = do
  changed ← change (listed attachments)
  Ok (message props recipients (attachments_from changed))

-- an attachment whose properties are changed
abbrev pub with_props : (List Prop → Result (List Prop) Why) → Attached → Result Attached Why
with_props change one = do
  changed ← change one.0
  Ok (changed, one.1)

-- a message in which the properties of a spot are changed
abbrev pub at_spot : (List Prop → Result (List Prop) Why) → Spot → Message → Result Message Why
at_spot change itself (message props recipients attachments) = do
  changed ← change props
  Ok (message changed recipients attachments)
at_spot change (recipient number) m = with_recipients (changed_at change number) m
at_spot change (attachment number) m = with_attachments (changed_at (with_props change) number) m

-- ---- one edit

-- an attachment whose message is changed
abbrev pub body_with : (Message → Result Message Why) → Body → Result Body Why
body_with change nothing = Err no_place
body_with change (embedded inner) = do
  changed ← change inner
  Ok (embedded changed)
body_with change (stored store) = Err no_place

abbrev pub with_body : (Message → Result Message Why) → Attached → Result Attached Why
with_body change one = do
  changed ← body_with change one.1
  Ok (one.0, changed)

-- a tree in which the message at the end of a path is changed
abbrev pub at_path : (Message → Result Message Why) → List ℕ → Message → Result Message Why
at_path change [] m = change m
at_path change (number ∷ path) m = with_attachments (changed_at (with_body (at_path change path)) number) m

-- the tree that an edit makes of another, or why it can't be done; all else stays as it is
abbrev pub edited_once : Edit → Message → Result Message Why
edited_once (set_prop place prop) t = at_path (at_spot (with_prop prop) place.spot) place.path t
edited_once (remove_prop place key kind) t = at_path (at_spot (without_prop key kind) place.spot) place.path t
edited_once (add_recipient path) t = at_path (with_recipients (λ recipients. Ok (recipients ++ [] ∷ []))) path t
edited_once (drop_recipient path number) t = at_path (with_recipients (dropped_at number)) path t
edited_once (drop_attachment path number) t = at_path (with_attachments (dropped_at number)) path t

-- ---- a list of edits

-- the number of an edit, from 0, and why it can't be done
abbrev pub EditFault : Type 0
EditFault = ℕ × Why

-- the same where an edit has the number n
abbrev pub numbered_fault : ℕ → Result Message Why → Result Message EditFault
numbered_fault n (Ok t) = Ok t
numbered_fault n (Err why) = Err (n, why)

abbrev pub and_after : Result Message EditFault → (Message → Result Message EditFault) → Result Message EditFault
and_after (Ok t) next = next t
and_after (Err g) next = Err g

-- the same of edits of which the first has the number n
abbrev pub edited_from : ℕ → List Edit → Message → Result Message EditFault
edited_from n [] t = Ok t
edited_from n (e ∷ es) t = and_after (numbered_fault n (edited_once e t)) (edited_from (n + 1) es)

-- the tree that edits make, each of what those before it made, or the first that can't be done
abbrev pub edited_tree : List Edit → Message → Result Message EditFault
edited_tree es t = edited_from 0 es t

-- a list of trees, each made from the one before by the next edit
abbrev pub Makes : List Edit → Message → Message → Type 0
Makes [] t end = end ≡ t
Makes (e ∷ es) t end = (next : Message) × (edited_once e t ≡ Ok next) × Makes es next end

-- those before the edit of a number make a tree of which it makes none
pub record IsFirstFault (es : List Edit) (t : Message) (g : EditFault) : Type 0 where
  pub before : List Edit
  pub edit : Edit
  pub behind : List Edit
  pub parts : es ≡ before ++ edit ∷ behind
  pub number : length before ≡ g.0
  pub made : Message
  pub makes : Makes before t made
  pub fails : edited_once edit made ≡ Err g.1

-- ---- edits that are well-formed

-- what is set keeps to the form and the range of its kind, and a name's text has units of 16 bits
abbrev pub IsEdit : Edit → Type 0
IsEdit (set_prop place prop) = IsProp prop × KeyHasUnits prop.key
IsEdit (remove_prop place key kind) = Unit {0}
IsEdit (add_recipient path) = Unit {0}
IsEdit (drop_recipient path number) = Unit {0}
IsEdit (drop_attachment path number) = Unit {0}
