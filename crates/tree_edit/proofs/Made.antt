-- What an opened message means, part by part.
use Rattle.std.proofs.Common.{◌≡◌, ◌∙◌, ap, sym, refl, ℕ, List, [], ◌∷◌, ◌++◌, map, append_assoc}
use Rattle.std.specs.List.{flat_map}
use Rattle.std.specs.Prelude.{Result, Ok, Err}
use Rattle.std.proofs.lemmas.List.{map-append}
use Rattle.std.specs.declared.alloc.Global.{Global}
use Rattle.std.specs.declared.boxed.Box.{Box}
use Rattle.carrier_model.specs.Values.{Prop}
use Rattle.carrier_model.specs.Tree as plain
use Rattle.edit_model.specs.Edits.{Why, with_attachments, with_props, body_with, with_body}
use Rattle.tree_edit.specs.Opened.{open_body_step, open_attached_step, open_list_step, open_message_step, open_tree_of, open_list_of, open_attached_of, open_body_of, props_of, recipients_of}
use Rattle.tree_edit.specs.declared.open_messages.OpenMessage.{OpenMessage, OpenMessage-F, out-OpenMessage, roll-OpenMessage, fold-roll-OpenMessage, fold_out-OpenMessage}
use Rattle.tree_edit.specs.declared.open_messages.OpenBody.{OpenBody, fold-roll-OpenBody}
use Rattle.tree_edit.specs.declared.open_messages.OpenBody.TheVariants as body
use Rattle.tree_edit.specs.declared.open_messages.OpenAttachment.{OpenAttachment, OpenAttachment-F, out-OpenAttachment, roll-OpenAttachment, fold-roll-OpenAttachment, fold_out-OpenAttachment}
use Rattle.tree_edit.specs.declared.open_messages.OpenAttachments.{OpenAttachments, fold-roll-OpenAttachments}
use Rattle.tree_edit.specs.declared.open_messages.OpenAttachments.TheVariants as lists
use Rattle.tree_edit.specs.declared.chunked_list.ChunkedList.{ChunkedList}
use Rattle.tree_edit.specs.ChunkedLists.{listed}
use Rattle.tree_edit.specs.declared.open_props.OpenProps.{OpenProps}
use Rattle.tree_edit.proofs.Steps.{attachments_ok, attachments_err, props_ok, props_err, body_ok, body_err}

-- chunks in which each element stands for another
chunks_made : {X Y A C : Type 0} (items : X → List A) (others : Y → List C) (g : X → Y) (f : A → C) → ((x : X) → others (g x) ≡ map f (items x)) → (full : List X) (last : List A) → flat_map others (map g full) ++ map f last ≡ map f (flat_map items full ++ last)
chunks_made items others g f each [] last = refl
chunks_made items others g f each (x ∷ full) last =
    append_assoc (others (g x)) (flat_map others (map g full)) (map f last)
    ∙ (ap (λ l. l ++ (flat_map others (map g full) ++ map f last)) (each x)
    ∙ (ap (λ l. map f (items x) ++ l) (chunks_made items others g f each full last)
    ∙ (sym (map-append f (items x) (flat_map items full ++ last))
    ∙ ap (map f) (sym (append_assoc (items x) (flat_map items full) last)))))

module _ {B : Type 0} (bytes_of : B → List ℕ) where
  pub list_made : (rows : ChunkedList (OpenAttachment B)) → open_list_of bytes_of (lists.Open rows) ≡ map (open_attached_of bytes_of) (listed rows)
  list_made rows =
      ap (open_list_of bytes_of) (sym (lists.rolls-Open rows))
      ∙ (fold-roll-OpenAttachments B (List plain.Attached) plain.Body plain.Attached plain.Message (open_list_step bytes_of) (open_body_step bytes_of) (open_attached_step bytes_of) (open_message_step bytes_of) _
      ∙ chunks_made (λ chunk. chunk.items) (λ chunk. chunk.items) _ (open_attached_of bytes_of) (λ chunk. refl) rows.full.items rows.last.items)

  tree_out : (m : OpenMessage B) → open_tree_of bytes_of m ≡ plain.message (props_of (out-OpenMessage B m).props) (recipients_of (out-OpenMessage B m).recipients) (plain.attachments_from (open_list_of bytes_of (out-OpenMessage B m).attachments))
  tree_out = fold_out-OpenMessage B (List plain.Attached) plain.Body plain.Attached plain.Message (open_list_step bytes_of) (open_body_step bytes_of) (open_attached_step bytes_of) (open_message_step bytes_of)

  tree_made : (r : OpenMessage-F B (OpenAttachments B) (OpenBody B) (OpenAttachment B) (OpenMessage B)) → open_tree_of bytes_of (roll-OpenMessage B r) ≡ plain.message (props_of r.props) (recipients_of r.recipients) (plain.attachments_from (open_list_of bytes_of r.attachments))
  tree_made = fold-roll-OpenMessage B (List plain.Attached) plain.Body plain.Attached plain.Message (open_list_step bytes_of) (open_body_step bytes_of) (open_attached_step bytes_of) (open_message_step bytes_of)

  attached_out : (a : OpenAttachment B) → open_attached_of bytes_of a ≡ (props_of (out-OpenAttachment B a).props, open_body_of bytes_of (out-OpenAttachment B a).body)
  attached_out = fold_out-OpenAttachment B (List plain.Attached) plain.Body plain.Attached plain.Message (open_list_step bytes_of) (open_body_step bytes_of) (open_attached_step bytes_of) (open_message_step bytes_of)

  attached_made : (r : OpenAttachment-F B (OpenAttachments B) (OpenBody B) (OpenAttachment B) (OpenMessage B)) → open_attached_of bytes_of (roll-OpenAttachment B r) ≡ (props_of r.props, open_body_of bytes_of r.body)
  attached_made = fold-roll-OpenAttachment B (List plain.Attached) plain.Body plain.Attached plain.Message (open_list_step bytes_of) (open_body_step bytes_of) (open_attached_step bytes_of) (open_message_step bytes_of)

  -- a message with other attachments, or without a change of them
  pub attachments_done : (change : List plain.Attached → Result (List plain.Attached) Why) (m : OpenMessage B) (r : OpenAttachments B) → change (open_list_of bytes_of (out-OpenMessage B m).attachments) ≡ Ok (open_list_of bytes_of r)
      → with_attachments change (open_tree_of bytes_of m) ≡ Ok (open_tree_of bytes_of (roll-OpenMessage B (record { props = (out-OpenMessage B m).props; recipients = (out-OpenMessage B m).recipients; attachments = r })))
  attachments_done change m r h =
      let props = props_of (out-OpenMessage B m).props in
      let recipients = recipients_of (out-OpenMessage B m).recipients in
      ap (with_attachments change) (tree_out m)
      ∙ (attachments_ok change props recipients (open_list_of bytes_of (out-OpenMessage B m).attachments) (open_list_of bytes_of r) h
      ∙ ap Ok (sym (tree_made (record { props = (out-OpenMessage B m).props; recipients = (out-OpenMessage B m).recipients; attachments = r }))))

  pub attachments_fail : (change : List plain.Attached → Result (List plain.Attached) Why) (m : OpenMessage B) (why : Why) → change (open_list_of bytes_of (out-OpenMessage B m).attachments) ≡ Err why → with_attachments change (open_tree_of bytes_of m) ≡ Err why
  attachments_fail change m why h = ap (with_attachments change) (tree_out m) ∙ attachments_err change (props_of (out-OpenMessage B m).props) (recipients_of (out-OpenMessage B m).recipients) (open_list_of bytes_of (out-OpenMessage B m).attachments) why h

  -- an attachment with other properties, or without a change of them
  pub props_done : (change : List Prop → Result (List Prop) Why) (a : OpenAttachment B) (props : OpenProps B) → change (props_of (out-OpenAttachment B a).props) ≡ Ok (props_of props) → with_props change (open_attached_of bytes_of a) ≡ Ok (open_attached_of bytes_of (roll-OpenAttachment B (record { props = props; body = (out-OpenAttachment B a).body })))
  props_done change a props h = ap (with_props change) (attached_out a) ∙ (props_ok change (props_of (out-OpenAttachment B a).props, open_body_of bytes_of (out-OpenAttachment B a).body) (props_of props) h ∙ ap Ok (sym (attached_made (record { props = props; body = (out-OpenAttachment B a).body }))))

  pub props_fail : (change : List Prop → Result (List Prop) Why) (a : OpenAttachment B) (why : Why) → change (props_of (out-OpenAttachment B a).props) ≡ Err why → with_props change (open_attached_of bytes_of a) ≡ Err why
  props_fail change a why h = ap (with_props change) (attached_out a) ∙ props_err change (props_of (out-OpenAttachment B a).props, open_body_of bytes_of (out-OpenAttachment B a).body) why h

  -- an attachment with another body, or without a change of it
  pub body_done : (change : plain.Message → Result plain.Message Why) (a : OpenAttachment B) (body : OpenBody B) → body_with change (open_body_of bytes_of (out-OpenAttachment B a).body) ≡ Ok (open_body_of bytes_of body) → with_body change (open_attached_of bytes_of a) ≡ Ok (open_attached_of bytes_of (roll-OpenAttachment B (record { props = (out-OpenAttachment B a).props; body = body })))
  body_done change a body h = ap (with_body change) (attached_out a) ∙ (body_ok change (props_of (out-OpenAttachment B a).props, open_body_of bytes_of (out-OpenAttachment B a).body) (open_body_of bytes_of body) h ∙ ap Ok (sym (attached_made (record { props = (out-OpenAttachment B a).props; body = body }))))

  pub body_fail : (change : plain.Message → Result plain.Message Why) (a : OpenAttachment B) (why : Why) → body_with change (open_body_of bytes_of (out-OpenAttachment B a).body) ≡ Err why → with_body change (open_attached_of bytes_of a) ≡ Err why
  body_fail change a why h = ap (with_body change) (attached_out a) ∙ body_err change (props_of (out-OpenAttachment B a).props, open_body_of bytes_of (out-OpenAttachment B a).body) why h

  message_made : (inner : Box (OpenMessage B) Global) → open_body_of bytes_of (body.Message inner) ≡ plain.embedded (open_tree_of bytes_of inner.value)
  message_made inner = ap (open_body_of bytes_of) (sym (body.rolls-Message inner)) ∙ fold-roll-OpenBody B (List plain.Attached) plain.Body plain.Attached plain.Message (open_list_step bytes_of) (open_body_step bytes_of) (open_attached_step bytes_of) (open_message_step bytes_of) _

  -- a body with another message
  pub message_done : (change : plain.Message → Result plain.Message Why) (b : plain.Body) (t : plain.Message) (new : Box (OpenMessage B) Global) → b ≡ plain.embedded t → change t ≡ Ok (open_tree_of bytes_of new.value) → body_with change b ≡ Ok (open_body_of bytes_of (body.Message new))
  message_done change b t new is made = ap (body_with change) is ∙ rw made (ap Ok (sym (message_made new)))
