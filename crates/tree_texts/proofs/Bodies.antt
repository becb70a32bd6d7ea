-- Messages and attachments, part by part.
use Rattle.std.proofs.Common.{◌≡◌, ◌∙◌, ap, sym, ℕ, ◌+◌, ◌≤◌, List, [], ◌++◌, length, drop, append_assoc}
use Rattle.std.specs.Prelude.{codes, Some, slice_get}
use Rattle.std.specs.declared.boxed.Box.{Box}
use Rattle.std.specs.declared.alloc.Global.{Global}
use Rattle.std.proofs.lemmas.List.{drop_all}
use Rattle.carrier_model.specs.Tree as plain
use Rattle.carrier_model.specs.Tree.{Attached, attachments_from}
use Rattle.carrier_model.specs.Values.{Prop}
use Rattle.carrier_model.proofs.Trees.{drop_at}
use Rattle.text_model.specs.TreeTexts.{line, counted, prop_lines, recipient_lines, attachment_lines, body_lines, message_lines}
use Rattle.msg_tree.specs.Meaning.{tree_of, list_of, attached_of, body_of, body_step, attached_step, list_step, message_step}
use Rattle.msg_tree.specs.StoreMeaning.{store_of}
use Rattle.msg_tree.specs.declared.messages.Attachment.{Attachment, out-Attachment, fold_out-Attachment}
use Rattle.msg_tree.specs.declared.messages.Body as held
use Rattle.msg_tree.specs.declared.messages.Body.{Body, fold_out-Body}
use Rattle.msg_tree.specs.declared.messages.Message.{Message, out-Message, fold_out-Message}
use Rattle.msg_tree.specs.declared.stores.Store.{Store}
use Rattle.tree_texts.specs.Attachments.{attachment_text}

-- ---- lines

-- the line of a message, and those of its properties and its recipients
abbrev pub own_lines : ℕ → List Prop → List (List Prop) → List ℕ
own_lines indent props recipients = line indent (codes "message") ++ (prop_lines (indent + 2) props ++ recipient_lines (indent + 2) 0 recipients)

abbrev pub recipient_text : (indent i : ℕ) → List Prop → List ℕ
recipient_text indent i props = line indent (counted (codes "recipient") i) ++ prop_lines (indent + 2) props

pub next_recipient : (indent : ℕ) (xs : List (List Prop)) (k : ℕ) (x : List Prop) → slice_get xs k ≡ Some x → recipient_lines indent k (drop k xs) ≡ recipient_text indent k x ++ recipient_lines indent (k + 1) (drop (k + 1) xs)
next_recipient indent xs k x at =
    ap (recipient_lines indent k) (drop_at xs k x at)
    ∙ sym (append_assoc (line indent (counted (codes "recipient") k)) (prop_lines (indent + 2) x) (recipient_lines indent (k + 1) (drop (k + 1) xs)))

pub no_recipient : (indent : ℕ) (xs : List (List Prop)) (k : ℕ) → length xs ≤ k → recipient_lines indent k (drop k xs) ≡ []
no_recipient indent xs k le = ap (recipient_lines indent k) (drop_all k xs le)

-- the attachments from a place on
abbrev pub lines_from : ℕ → ℕ → List Attached → List ℕ
lines_from indent k xs = attachment_lines indent k (attachments_from xs)

pub next_attachment : (indent : ℕ) (xs : List Attached) (k : ℕ) (x : Attached) → slice_get xs k ≡ Some x → lines_from indent k (drop k xs) ≡ attachment_text indent k x ++ lines_from indent (k + 1) (drop (k + 1) xs)
next_attachment indent xs k x at =
    let head = line indent (counted (codes "attachment") k) in
    let props = prop_lines (indent + 2) x.0 in
    let body = body_lines (indent + 2) x.1 in
    let more = lines_from indent (k + 1) (drop (k + 1) xs) in
    ap (lines_from indent k) (drop_at xs k x at)
    ∙ (ap (λ (z : List ℕ). head ++ z) (sym (append_assoc props body more))
    ∙ sym (append_assoc head (props ++ body) more))

pub no_attachment : (indent : ℕ) (xs : List Attached) (k : ℕ) → length xs ≤ k → lines_from indent k (drop k xs) ≡ []
no_attachment indent xs k le = ap (lines_from indent k) (drop_all k xs le)

-- ---- by the types of the code

module _ {B : Type 0} (bytes_of : B → List ℕ) where
  tree_out : (m : Message B) → tree_of bytes_of m ≡ plain.message (out-Message B m).props (out-Message B m).recipients (attachments_from (list_of bytes_of (out-Message B m).attachments))
  tree_out = fold_out-Message B plain.Body Attached (List Attached) plain.Message (body_step bytes_of) (attached_step bytes_of) (list_step bytes_of) (message_step bytes_of)

  attached_out : (a : Attachment B) → attached_of bytes_of a ≡ ((out-Attachment B a).props, body_of bytes_of (out-Attachment B a).body)
  attached_out = fold_out-Attachment B plain.Body Attached (List Attached) plain.Message (body_step bytes_of) (attached_step bytes_of) (list_step bytes_of) (message_step bytes_of)

  -- how deep a message is, by its attachments
  pub depth_out : (m : Message B) → plain.depth (tree_of bytes_of m) ≡ plain.depth_in (attachments_from (list_of bytes_of (out-Message B m).attachments))
  depth_out m = ap plain.depth (tree_out m)

  -- a message's own lines, and those of its attachments
  pub message_whole : (indent : ℕ) (m : Message B) → message_lines indent (tree_of bytes_of m) ≡ own_lines indent (out-Message B m).props (out-Message B m).recipients ++ lines_from (indent + 2) 0 (list_of bytes_of (out-Message B m).attachments)
  message_whole indent m =
      let r = out-Message B m in
      let head = line indent (codes "message") in
      let props = prop_lines (indent + 2) r.props in
      let recipients = recipient_lines (indent + 2) 0 r.recipients in
      let below = lines_from (indent + 2) 0 (list_of bytes_of r.attachments) in
      ap (message_lines indent) (tree_out m)
      ∙ (ap (λ (z : List ℕ). head ++ z) (sym (append_assoc props recipients below))
      ∙ sym (append_assoc head (props ++ recipients) below))

  -- ---- what an attachment holds, by the variant of its body

  store_made : (s : Store B) → body_of bytes_of (held.Store s) ≡ plain.stored (store_of bytes_of s)
  unfolding held.out-Body denote.Hole.Carrier.out
  store_made s = fold_out-Body B plain.Body Attached (List Attached) plain.Message (body_step bytes_of) (attached_step bytes_of) (list_step bytes_of) (message_step bytes_of) (held.Store s)

  message_made : (b : Box (Message B) Global) → body_of bytes_of (held.Message b) ≡ plain.embedded (tree_of bytes_of b.value)
  unfolding held.out-Body denote.Hole.Carrier.out
  message_made b = fold_out-Body B plain.Body Attached (List Attached) plain.Message (body_step bytes_of) (attached_step bytes_of) (list_step bytes_of) (message_step bytes_of) (held.Message b)

  plain_made : body_of bytes_of held.Plain ≡ plain.nothing
  unfolding held.out-Body denote.Hole.Carrier.out
  plain_made = fold_out-Body B plain.Body Attached (List Attached) plain.Message (body_step bytes_of) (attached_step bytes_of) (list_step bytes_of) (message_step bytes_of) held.Plain

module _ {B : Type 0} (bytes_of : B → List ℕ) (a : Attachment B) where
  pub attached_props : (attached_of bytes_of a).0 ≡ (out-Attachment B a).props
  attached_props = ap (λ x. x.0) (attached_out bytes_of a)

  body_out : (b : Body B) → (out-Attachment B a).body ≡ b → (attached_of bytes_of a).1 ≡ body_of bytes_of b
  body_out b e = ap (λ x. x.1) (attached_out bytes_of a) ∙ ap (body_of bytes_of) e

  pub plain_body : (out-Attachment B a).body ≡ held.Plain → (attached_of bytes_of a).1 ≡ plain.nothing
  plain_body e = body_out held.Plain e ∙ plain_made bytes_of

  pub message_body : (b : Box (Message B) Global) → (out-Attachment B a).body ≡ held.Message b → (attached_of bytes_of a).1 ≡ plain.embedded (tree_of bytes_of b.value)
  message_body b e = body_out (held.Message b) e ∙ message_made bytes_of b

  pub store_body : (s : Store B) → (out-Attachment B a).body ≡ held.Store s → (attached_of bytes_of a).1 ≡ plain.stored (store_of bytes_of s)
  store_body s e = body_out (held.Store s) e ∙ store_made bytes_of s
