-- A list of attachments without one of them, or with another in its place.
use Rattle.std.proofs.Common.{◌≡◌, ℕ, suc, List, take, drop}
use Rattle.std.proofs.lemmas.List.{map-append, take-map, drop-map}
use Rattle.std.specs.List.{remove}
use Rattle.std.specs.Prelude.{map}
use Rattle.carrier_model.specs.Tree as plain
use Rattle.msg_tree.specs.declared.messages.Attachment.{Attachment}
use Rattle.msg_tree.specs.declared.messages.Attachments.{Attachments, Attachments-F, roll-Attachments, fold-roll-Attachments}
use Rattle.msg_tree.specs.declared.messages.Body.{Body}
use Rattle.msg_tree.specs.declared.messages.Message.{Message}
use Rattle.msg_tree.specs.Meaning.{body_step, attached_step, list_step, message_step, list_of, attached_of}

pub map-remove : {A C : Type 0} (f : A → C) (xs : List A) (k : ℕ) → map f (remove xs k) ≡ remove (map f xs) k
map-remove f xs k = rw (map-append f (take k xs) (drop (suc k) xs), take-map f k xs, drop-map f (suc k) xs)

module _ {B : Type 0} (bytes_of : B → List ℕ) where
  pub list_made : (r : Attachments-F B (Body B) (Attachment B) (Attachments B) (Message B)) → list_of bytes_of (roll-Attachments B r) ≡ map (attached_of bytes_of) r.list.items
  list_made = fold-roll-Attachments B plain.Body plain.Attached (List plain.Attached) plain.Message (body_step bytes_of) (attached_step bytes_of) (list_step bytes_of) (message_step bytes_of)
