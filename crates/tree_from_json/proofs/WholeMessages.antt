-- Messages read part by part.
use Rattle.std.proofs.Common.{◌≡◌, ◌∙◌, refl, sym, ap, subst, ℕ, zero, suc, ◌-◌, ◌≤◌, ◌<◌, true, List, arith}
use Rattle.std.specs.Prelude.{codes, Result, Ok, Err}
use Rattle.serde_json.specs.Data.{Data}
use Rattle.carrier_model.specs.Tree.{Message, message, Attachments, no_more, attached, Body, nothing, embedded, stored, Attached, attachments_from, depth}
use Rattle.carrier_model.specs.Trees.{HasPropLists, HavePropLists, BodyHasPropLists}
use Rattle.carrier_model.specs.Values.{Prop}
use Rattle.json_model.specs.Faults.{JsonFault, ◌>>=◌, under}
use Rattle.json_model.specs.MessageForms.{MESSAGE, read_attachment, read_parts, read_within, read_json}
use Rattle.json_model.specs.Parts.{has_members, member_at, read_each}
use Rattle.json_model.specs.Properties.{read_props}
use Rattle.json_model.proofs.SoundMessages.{read_is_meant}
use Rattle.msg_tree.specs.Keeping.{HasStores, HaveStores, BodyHasStores}
use Rattle.msg_tree.specs.Meaning.{tree_of, body_step, attached_step, list_step, message_step, list_of}
use Rattle.msg_tree.specs.declared.messages.Attachment.{Attachment}
use Rattle.msg_tree.specs.declared.messages.Attachments.{Attachments as AttachmentList}
use Rattle.msg_tree.specs.declared.messages.Body.{Body as Held}
use Rattle.msg_tree.specs.declared.messages.Message.{Message as Made, Message-F, roll-Message, fold-roll-Message}
use Rattle.tree_from_json.specs.Ends.{Reads}
use Rattle.tree_from_json.specs.declared.read_ends.ReadEnd.{ReadEnd}
use Rattle.tree_from_json.proofs.Reading.{then_err}

-- ---- a message by its parts

module _ {B : Type 0} (bytes_of : B → List ℕ) where
  pub message_rolled : (r : Message-F B (Held B) (Attachment B) (AttachmentList B) (Made B)) → tree_of bytes_of (roll-Message B r) ≡ message r.props r.recipients (attachments_from (list_of bytes_of r.attachments))
  message_rolled = fold-roll-Message B Body Attached (List Attached) Message (body_step bytes_of) (attached_step bytes_of) (list_step bytes_of) (message_step bytes_of)

-- ---- the parts in turn

module _ (levels : ℕ) (v : Data) (some : 0 < levels) (has : has_members MESSAGE v ≡ true) where
  within : read_within levels v ≡ read_parts (read_within (levels - 1)) v
  within = by levels some
    where
      by : (n : ℕ) → 0 < n → read_within n v ≡ read_parts (read_within (n - 1)) v
      by zero lt = absurd (omega (arith, lt))
      by (suc n) lt = let e : suc n - 1 ≡ n = omega arith in rw (has, e) refl

  abbrev attachments_read : Data → Result (List Attached) JsonFault
  attachments_read a = under 0 (read_each (read_attachment (read_within (levels - 1))) a)

  abbrev recipients_read : Data → Result (List (List Prop)) JsonFault
  recipients_read c = under 2 (read_each read_props c)

  abbrev with_recipients : List Attached → List Prop → Data → Result Message JsonFault
  with_recipients xs props c = recipients_read c >>= (λ recipients. Ok (message props recipients (attachments_from xs)))

  abbrev with_props : List Attached → Data → Result Message JsonFault
  with_props xs b = under 1 (read_props b) >>= (λ props. member_at (codes "recipients") v >>= with_recipients xs props)

  abbrev with_attachments : Data → Result Message JsonFault
  with_attachments a = attachments_read a >>= (λ xs. member_at (codes "properties") v >>= with_props xs)

  parts : read_within levels v ≡ (member_at (codes "attachments") v >>= with_attachments)
  parts = within

  module _ (a : Data) (at : member_at (codes "attachments") v ≡ Ok a) where
    behind_attachments : read_within levels v ≡ with_attachments a
    behind_attachments = parts ∙ ap (λ r. r >>= with_attachments) at

    pub attachments_err : {X Y : Type 0} (one : X → List Attached) (all : Y → Message) (e : ReadEnd) → Reads one (attachments_read a) (Err e) → Reads all (read_within levels v) (Err e)
    attachments_err one all e fails = subst (λ m. Reads all m (Err e)) (sym behind_attachments) (then_err one all (attachments_read a) (λ xs. member_at (codes "properties") v >>= with_props xs) e fails)

    module _ (xs : List Attached) (list : attachments_read a ≡ Ok xs) (b : Data) (to : member_at (codes "properties") v ≡ Ok b) where
      behind_props : read_within levels v ≡ with_props xs b
      behind_props = behind_attachments ∙ (ap (λ r. r >>= (λ ys. member_at (codes "properties") v >>= with_props ys)) list ∙ ap (λ r. r >>= with_props xs) to)

      pub props_err : {X Y : Type 0} (one : X → List Prop) (all : Y → Message) (e : ReadEnd) → Reads one (under 1 (read_props b)) (Err e) → Reads all (read_within levels v) (Err e)
      props_err one all e fails = subst (λ m. Reads all m (Err e)) (sym behind_props) (then_err one all (under 1 (read_props b)) (λ props. member_at (codes "recipients") v >>= with_recipients xs props) e fails)

      module _ (props : List Prop) (own : under 1 (read_props b) ≡ Ok props) (c : Data) (who : member_at (codes "recipients") v ≡ Ok c) where
        behind_recipients : read_within levels v ≡ with_recipients xs props c
        behind_recipients = behind_props ∙ (ap (λ r. r >>= (λ ps. member_at (codes "recipients") v >>= with_recipients xs ps)) own ∙ ap (λ r. r >>= with_recipients xs props) who)

        pub recipients_err : {X Y : Type 0} (one : X → List (List Prop)) (all : Y → Message) (e : ReadEnd) → Reads one (recipients_read c) (Err e) → Reads all (read_within levels v) (Err e)
        recipients_err one all e fails = subst (λ m. Reads all m (Err e)) (sym behind_recipients) (then_err one all (recipients_read c) (λ recipients. Ok (message props recipients (attachments_from xs))) e fails)

        pub message_read : (recipients : List (List Prop)) → recipients_read c ≡ Ok recipients → read_within levels v ≡ Ok (message props recipients (attachments_from xs))
        message_read recipients are = behind_recipients ∙ ap (λ r. r >>= (λ rs. Ok (message props rs (attachments_from xs)))) are

-- ---- what is read is a tree

mutual
  has_stores : (t : Message) → HasPropLists t → HasStores t
  has_stores (message props recipients attachments) h = have_stores attachments h.1.1

  have_stores : (a : Attachments) → HavePropLists a → HaveStores a
  have_stores no_more h = tt
  have_stores (attached props body others) h = (body_has_stores body h.1.0, have_stores others h.1.1)

  body_has_stores : (b : Body) → BodyHasPropLists b → BodyHasStores b
  body_has_stores nothing h = tt
  body_has_stores (embedded inner) h = has_stores inner h
  body_has_stores (stored store) h = h

pub read_shallow : (v : Data) (t : Message) → read_json v ≡ Ok t → depth t ≤ 32
read_shallow v t h = let l = (read_is_meant v t h).tree.levels in omega (arith, l)

pub read_stores_are : (v : Data) (t : Message) → read_json v ≡ Ok t → HasStores t
read_stores_are v t h = has_stores t (read_is_meant v t h).tree.lists
