-- Lists that an edit leaves as they are.
use Rattle.std.proofs.Common.{◌≡◌, ℕ, List, refl}
use Rattle.std.specs.Prelude.{Ok}
use Rattle.carrier_model.specs.Tree.{Attached}
use Rattle.carrier_model.specs.Values.{Prop}
use Rattle.edit_words.specs.Meaning.{edit_of}
use Rattle.edit_words.specs.declared.edits.Edit.{Edit}
use Rattle.edit_words.specs.declared.edits.Edit.TheVariants as edits
use Rattle.tree_edit.specs.Changes.{on_recipients, on_attachments}

pub recipients_kept : (e : Edit) (l : List (List Prop)) → ((path : List ℕ) → e ≡ edits.AddRecipient path → ⊥) → ((path : List ℕ) (k : ℕ) → e ≡ edits.DropRecipient path k → ⊥) → on_recipients (edit_of e) l ≡ Ok l
recipients_kept (edits.SetProp place prop) l add drop = refl
recipients_kept (edits.RemoveProp place key kind) l add drop = refl
recipients_kept (edits.AddRecipient path) l add drop = absurd (add path refl)
recipients_kept (edits.DropRecipient path k) l add drop = absurd (drop path k refl)
recipients_kept (edits.DropAttachment path k) l add drop = refl

pub attachments_kept : (e : Edit) (l : List Attached) → ((path : List ℕ) (k : ℕ) → e ≡ edits.DropAttachment path k → ⊥) → on_attachments (edit_of e) l ≡ Ok l
attachments_kept (edits.SetProp place prop) l drop = refl
attachments_kept (edits.RemoveProp place key kind) l drop = refl
attachments_kept (edits.AddRecipient path) l drop = refl
attachments_kept (edits.DropRecipient path k) l drop = refl
attachments_kept (edits.DropAttachment path k) l drop = absurd (drop path k refl)
